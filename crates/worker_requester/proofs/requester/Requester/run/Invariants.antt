use Rattle.std.proofs.Common.{◌≡◌, false}
use Rattle.worker_requester.specs.Asking.{AsksOn}
use Rattle.worker_requester.proofs.requester.Requester.run.Given as goal

abbrev pub invariant-loop : goal.invariant-loop
invariant-loop g l = record {
  can : (goal.iterator-loop g).can_next l.iterator';
  ends : (goal.iterator-loop g).is_finite l.iterator';
  unmarked : l.self.end.state.machine.marked ≡ false;
  on : AsksOn g.S.Parks.channel g.S.Seatlike.told l.fn.self l.self;
}
