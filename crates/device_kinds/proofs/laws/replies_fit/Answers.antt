use Rattle.device_kinds.proofs.KindLaws as laws
use Rattle.device_kinds.proofs.laws.replies_fit.Goals as goal

pub returns : goal.returns
returns c = laws.replies_fit
