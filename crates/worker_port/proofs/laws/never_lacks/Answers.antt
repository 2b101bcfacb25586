use Rattle.worker_port.proofs.RoomLaws as laws
use Rattle.worker_port.proofs.laws.never_lacks.Goals as goal

pub returns : goal.returns
returns g c = laws.never_lacks
