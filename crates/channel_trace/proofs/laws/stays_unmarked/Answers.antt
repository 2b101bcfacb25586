use Rattle.channel_trace.proofs.RunLaws as laws
use Rattle.channel_trace.proofs.laws.stays_unmarked.Goals as goal

pub returns : goal.returns
returns g c = laws.stays_unmarked
