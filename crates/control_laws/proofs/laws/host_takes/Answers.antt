use Rattle.control_laws.proofs.Going.{host_takes}
use Rattle.control_laws.proofs.laws.host_takes.Goals as goal

pub returns : goal.returns
returns c = host_takes
