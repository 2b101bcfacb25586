use Rattle.control_laws.proofs.Ending.{over_law}
use Rattle.control_laws.proofs.laws.both_over.Goals as goal

pub returns : goal.returns
returns c = over_law
