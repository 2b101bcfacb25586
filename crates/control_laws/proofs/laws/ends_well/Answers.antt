use Rattle.control_laws.proofs.Going.{ends_law}
use Rattle.control_laws.proofs.laws.ends_well.Goals as goal

pub returns : goal.returns
returns c = ends_law
