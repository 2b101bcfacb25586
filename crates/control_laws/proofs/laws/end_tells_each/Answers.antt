use Rattle.control_laws.proofs.States.{each_law}
use Rattle.control_laws.proofs.laws.end_tells_each.Goals as goal

pub returns : goal.returns
returns c = each_law
