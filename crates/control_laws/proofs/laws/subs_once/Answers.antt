use Rattle.control_laws.proofs.Once.{subs_once_law}
use Rattle.control_laws.proofs.laws.subs_once.Goals as goal

pub returns : goal.returns
returns c = subs_once_law
