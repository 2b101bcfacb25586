use Rattle.device_kinds.proofs.KindLaws as laws
use Rattle.device_kinds.proofs.laws.scripts_ask.Goals as goal

pub returns : goal.returns
returns c = laws.script_asks
