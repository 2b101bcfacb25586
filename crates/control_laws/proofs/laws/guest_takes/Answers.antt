use Rattle.control_laws.proofs.Going.{guest_takes}
use Rattle.control_laws.proofs.laws.guest_takes.Goals as goal

pub returns : goal.returns
returns c = guest_takes
