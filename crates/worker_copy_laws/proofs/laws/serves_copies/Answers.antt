use Rattle.worker_copy_laws.proofs.Copying.{serves}
use Rattle.worker_copy_laws.proofs.laws.serves_copies.Goals as goal

pub returns : goal.returns
returns g c = λ t besides how w e calls h came ends. serves g.E.Seatlike.told g.E.Seatlike.tale g.T.Protocol.said (g.T.Protocol.format t) (g.T.Protocol.keeps t) besides how w e calls h came ends
