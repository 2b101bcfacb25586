use Rattle.std.proofs.Common.{◌≡◌, ◌-◌, [], length}
use Rattle.worker_server.specs.Serving.{ServesOn}
use Rattle.worker_server.proofs.server.Server.serve_on.Given as goal

abbrev pub invariant-loop-self : goal.invariant-loop-self
invariant-loop-self g l = record { end : l.self.end ≡ l.fn.self.end; owed : l.self.responder.owed ≡ []; on : ServesOn g.S.Device.same g.E.Parks.channel g.E.Seatlike.told l.fn.self l.self }

abbrev pub decreases-loop-self : goal.decreases-loop-self
decreases-loop-self g l = length l.self.end.state.got - l.self.served
