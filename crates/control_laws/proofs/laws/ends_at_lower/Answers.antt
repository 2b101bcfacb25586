use Rattle.control_laws.proofs.States.{lower_law}
use Rattle.control_laws.proofs.laws.ends_at_lower.Goals as goal

pub returns : goal.returns
returns c = lower_law
