use Rattle.control_laws.proofs.Once.{services_once_law}
use Rattle.control_laws.proofs.laws.services_once.Goals as goal

pub returns : goal.returns
returns c = services_once_law
