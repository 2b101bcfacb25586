use Rattle.device_kinds.proofs.KindLaws as laws
use Rattle.device_kinds.proofs.laws.requests_can_be_asked.Goals as goal

pub returns : goal.returns
returns c = laws.asks
