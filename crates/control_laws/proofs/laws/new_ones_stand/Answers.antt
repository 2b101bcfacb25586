use Rattle.control_laws.proofs.Going.{new_ones_stand}
use Rattle.control_laws.proofs.laws.new_ones_stand.Goals as goal

pub returns : goal.returns
returns c = new_ones_stand
