use Rattle.std.proofs.Common.{◌≡◌, false}
use Rattle.worker_server.specs.Serving.{ServesOn}
use Rattle.worker_server.proofs.server.Server.run.Given as goal

abbrev pub invariant-loop : goal.invariant-loop
invariant-loop g l = record {
  can : (goal.iterator-loop g).can_next l.iterator';
  ends : (goal.iterator-loop g).is_finite l.iterator';
  unmarked : l.self.end.state.machine.marked ≡ false;
  on : ServesOn g.S.Device.same g.E.Parks.channel g.E.Seatlike.told l.fn.self l.self;
}
