use Rattle.bus_model.proofs.Lending.{lends_one_lem}
use Rattle.bus_model.proofs.laws.lends_one.Goals as goal

pub returns : goal.returns
returns c = lends_one_lem
