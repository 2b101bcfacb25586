use Rattle.bus_model.proofs.Counting.{one_each_lem}
use Rattle.bus_model.proofs.laws.one_each.Goals as goal

pub returns : goal.returns
returns c = one_each_lem
