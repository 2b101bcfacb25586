use Rattle.bus_model.proofs.Arriving.{serves_each_lem}
use Rattle.bus_model.proofs.laws.serves_each.Goals as goal

pub returns : goal.returns
returns c = serves_each_lem
