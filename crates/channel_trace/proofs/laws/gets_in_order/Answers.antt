use Rattle.channel_trace.proofs.RunLaws as laws
use Rattle.channel_trace.proofs.laws.gets_in_order.Goals as goal

pub returns : goal.returns
returns g c = laws.gets_in_order
