use Rattle.channel_model.proofs.Carrying as laws
use Rattle.channel_model.proofs.carries.keeps_carried.Goals as goal

pub returns : goal.returns
returns g c = laws.carries
