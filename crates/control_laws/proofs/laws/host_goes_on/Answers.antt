use Rattle.control_laws.proofs.Going.{host_law}
use Rattle.control_laws.proofs.laws.host_goes_on.Goals as goal

pub returns : goal.returns
returns c = host_law
