use Rattle.ring_seat.specs.Settling.{IsSameEnd}
use Rattle.test_rings.proofs.ring_seat_tests.take_all.Given as goal

abbrev pub invariant-loop : goal.invariant-loop
invariant-loop g l = record {
  can : (goal.iterator-loop g).can_next l.iterator';
  ends : (goal.iterator-loop g).is_finite l.iterator';
  same : IsSameEnd l.initial.e l.e;
}
