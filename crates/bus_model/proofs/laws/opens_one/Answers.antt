use Rattle.bus_model.proofs.Turning.{opens_one_lem}
use Rattle.bus_model.proofs.laws.opens_one.Goals as goal

pub returns : goal.returns
returns c = opens_one_lem
