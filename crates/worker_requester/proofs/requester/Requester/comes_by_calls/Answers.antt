use Rattle.std.proofs.Common.{subst}
use Rattle.worker_port.specs.Line.{CameNew}
use Rattle.worker_requester.proofs.requester.Requester.comes_by_calls.Goals as goal

pub returns : goal.returns
returns g c = subst (λ w. CameNew g.S.Seatlike.tale w.end.end) c.self.view_is c.comes_by_calls.ensures
