use Rattle.channel_model.proofs.Ends as laws
use Rattle.channel_model.proofs.laws.has_roles.Goals as goal

pub returns : goal.returns
returns g c = laws.has_roles
