use Rattle.control_laws.proofs.Going.{few_law}
use Rattle.control_laws.proofs.laws.few_on_their_way.Goals as goal

pub returns : goal.returns
returns c = few_law
