use Rattle.control_laws.proofs.Never.{guest_is_cut}
use Rattle.control_laws.proofs.laws.guest_is_cut.Goals as goal

pub returns : goal.returns
returns c = guest_is_cut
