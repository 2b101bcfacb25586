use Rattle.control_laws.proofs.Going.{host_fronts}
use Rattle.control_laws.proofs.laws.host_fronts.Goals as goal

pub returns : goal.returns
returns c = host_fronts
