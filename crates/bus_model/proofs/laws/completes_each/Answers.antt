use Rattle.bus_model.proofs.Arriving.{completes_each_lem}
use Rattle.bus_model.proofs.laws.completes_each.Goals as goal

pub returns : goal.returns
returns c = completes_each_lem
