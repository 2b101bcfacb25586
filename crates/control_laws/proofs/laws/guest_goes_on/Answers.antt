use Rattle.control_laws.proofs.Going.{guest_law}
use Rattle.control_laws.proofs.laws.guest_goes_on.Goals as goal

pub returns : goal.returns
returns c = guest_law
