use Rattle.channel_model.proofs.Acking as laws
use Rattle.channel_model.proofs.laws.few_open.Goals as goal

pub returns : goal.returns
returns g c = laws.few_own
