use Rattle.ring_seat.specs.Settling.{IsSameEnd}
use Rattle.example_threads.proofs.two_threads.send_all.Given as goal

-- it is the same end
abbrev pub invariant-loop : goal.invariant-loop
invariant-loop g l = record {
  can : (goal.iterator-loop g).can_next l.iterator';
  ends : (goal.iterator-loop g).is_finite l.iterator';
  same : IsSameEnd l.initial.e l.e;
}
