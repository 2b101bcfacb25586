use Rattle.std.proofs.Common.{subst}
use Rattle.worker_port.specs.Line.{CameNew, Line}
use Rattle.worker_port.proofs.port.Port.comes_by_calls.Goals as goal

pub returns : goal.returns
returns g c = subst (λ (x : Line _). CameNew g.S.Seatlike.tale x.end) c.self.view_is c.self.invariant.came
