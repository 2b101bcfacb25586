use Rattle.control_laws.proofs.Never.{host_is_cut}
use Rattle.control_laws.proofs.laws.host_is_cut.Goals as goal

pub returns : goal.returns
returns c = host_is_cut
