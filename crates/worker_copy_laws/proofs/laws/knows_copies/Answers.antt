use Rattle.worker_copy_laws.proofs.Copying.{knows}
use Rattle.worker_copy_laws.proofs.laws.knows_copies.Goals as goal

pub returns : goal.returns
returns g c = λ e h came. knows g.E.Seatlike.told g.E.Seatlike.tale g.T.Protocol.said e h came
