use Rattle.channel_model.proofs.Lifting as laws
use Rattle.channel_model.proofs.lifts.keeps_lifted.Goals as goal

pub returns : goal.returns
returns g c = laws.lifts
