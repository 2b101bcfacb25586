use Rattle.bus_model.proofs.Arriving.{arrives_lem}
use Rattle.bus_model.proofs.laws.arrives.Goals as goal

pub returns : goal.returns
returns c = arrives_lem
