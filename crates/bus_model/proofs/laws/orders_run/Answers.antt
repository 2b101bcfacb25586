use Rattle.bus_model.proofs.ChannelMade.{channel_made}
use Rattle.bus_model.proofs.laws.orders_run.Goals as goal

pub returns : goal.returns
returns c = channel_made
