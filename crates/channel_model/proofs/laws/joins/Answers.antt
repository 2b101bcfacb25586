use Rattle.channel_model.proofs.Ends as laws
use Rattle.channel_model.proofs.laws.joins.Goals as goal

pub returns : goal.returns
returns g c = laws.joins
