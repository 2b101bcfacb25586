use Rattle.std.proofs.Common.{◌+◌, ◌≡◌}
use Rattle.hist_lock.specs.Seat.{IsSame}
use Rattle.test_devices.proofs.hist_lock_tests.use_up.Given as goal

abbrev pub invariant-loop : goal.invariant-loop
invariant-loop g l = record { same : IsSame l.fn.seat l.seat; left : l.seat.left + l.counter ≡ l.fn.seat.left }
