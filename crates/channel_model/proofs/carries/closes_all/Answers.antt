use Rattle.channel_model.proofs.Carrying as laws
use Rattle.channel_model.proofs.carries.closes_all.Goals as goal

pub returns : goal.returns
returns g c = laws.closes_all
