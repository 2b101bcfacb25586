use Rattle.control_laws.proofs.Once.{once_law}
use Rattle.control_laws.proofs.laws.rescinded_once.Goals as goal

pub returns : goal.returns
returns c = once_law
