use Rattle.device_kinds.proofs.KindLaws as laws
use Rattle.device_kinds.proofs.laws.asks_what_was_asked.Goals as goal

pub returns : goal.returns
returns c = laws.asked_is
