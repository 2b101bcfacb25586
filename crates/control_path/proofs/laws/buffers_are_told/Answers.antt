use Rattle.control_path.proofs.ToldLaws.{told_law}
use Rattle.control_path.proofs.laws.buffers_are_told.Goals as goal

pub returns : goal.returns
returns c = told_law
