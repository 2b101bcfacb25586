use Rattle.control_laws.proofs.Going.{host_starts}
use Rattle.control_laws.proofs.laws.host_starts.Goals as goal

pub returns : goal.returns
returns c = host_starts
