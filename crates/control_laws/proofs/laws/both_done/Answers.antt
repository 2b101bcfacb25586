use Rattle.control_laws.proofs.Going.{done_law}
use Rattle.control_laws.proofs.laws.both_done.Goals as goal

pub returns : goal.returns
returns c = done_law
