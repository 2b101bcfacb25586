use Rattle.control_laws.proofs.Rescinded.{released_law}
use Rattle.control_laws.proofs.laws.rescinded_are_released.Goals as goal

pub returns : goal.returns
returns c = released_law
