use Rattle.channel_trace.proofs.RunLaws as laws
use Rattle.channel_trace.proofs.laws.has_first_mark.Goals as goal

pub returns : goal.returns
returns g c = laws.has_first_mark
