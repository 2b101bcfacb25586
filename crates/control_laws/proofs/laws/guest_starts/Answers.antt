use Rattle.control_laws.proofs.Going.{guest_starts}
use Rattle.control_laws.proofs.laws.guest_starts.Goals as goal

pub returns : goal.returns
returns c = guest_starts
