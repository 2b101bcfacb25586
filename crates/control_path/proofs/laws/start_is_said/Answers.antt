use Rattle.control_path.proofs.ToldLaws.{start_law}
use Rattle.control_path.proofs.laws.start_is_said.Goals as goal

pub returns : goal.returns
returns c = start_law
