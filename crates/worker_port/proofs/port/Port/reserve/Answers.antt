use Rattle.worker_port.proofs.CameLaws.{reserved}
use Rattle.worker_port.proofs.port.Port.reserve.Goals as goal

pub invariant_of-self : goal.invariant_of-self
invariant_of-self g c = reserved g.S.Seatlike.tale g.S.Seatlike.told _ _ c.reserve.ensures.state.0 c.reserve.ensures.state.1 c.self.invariant
