use Rattle.control_laws.proofs.Going.{begin_law}
use Rattle.control_laws.proofs.laws.both_begin.Goals as goal

pub returns : goal.returns
returns c = begin_law
