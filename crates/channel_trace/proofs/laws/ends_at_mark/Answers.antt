use Rattle.channel_trace.proofs.RunLaws as laws
use Rattle.channel_trace.proofs.laws.ends_at_mark.Goals as goal

pub returns : goal.returns
returns g c = laws.ends_at_mark
