use Rattle.ring_seat.specs.Settling.{IsSameEnd}
use Rattle.test_pages.proofs.page_seat_tests.waits.Given as goal

abbrev pub invariant-loop : goal.invariant-loop
invariant-loop g l = IsSameEnd l.initial.e l.e
