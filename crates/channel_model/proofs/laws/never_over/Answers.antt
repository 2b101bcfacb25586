use Rattle.channel_model.proofs.Amounts as laws
use Rattle.channel_model.proofs.laws.never_over.Goals as goal

pub returns : goal.returns
returns g c = laws.never_over
