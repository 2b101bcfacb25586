use Rattle.control_laws.proofs.Going.{guest_fronts}
use Rattle.control_laws.proofs.laws.guest_fronts.Goals as goal

pub returns : goal.returns
returns c = guest_fronts
