use Rattle.channel_trace.proofs.RunLaws as laws
use Rattle.channel_trace.proofs.laws.drains_all.Goals as goal

pub returns : goal.returns
returns g c = laws.drains_all
