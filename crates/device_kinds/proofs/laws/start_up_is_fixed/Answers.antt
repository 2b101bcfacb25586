use Rattle.device_kinds.proofs.KindLaws as laws
use Rattle.device_kinds.proofs.laws.start_up_is_fixed.Goals as goal

pub returns : goal.returns
returns c = laws.start_is_fixed
