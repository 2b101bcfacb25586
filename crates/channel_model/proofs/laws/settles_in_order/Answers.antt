use Rattle.channel_model.proofs.Ends as laws
use Rattle.channel_model.proofs.laws.settles_in_order.Goals as goal

pub returns : goal.returns
returns g c = laws.settles_in_order
