use Rattle.control_laws.proofs.Going.{new_ones_law}
use Rattle.control_laws.proofs.laws.new_ones_agree.Goals as goal

pub returns : goal.returns
returns c = new_ones_law
