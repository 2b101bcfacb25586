use Rattle.control_laws.proofs.Rescinded.{subs_law}
use Rattle.control_laws.proofs.laws.subs_are_released.Goals as goal

pub returns : goal.returns
returns c = subs_law
