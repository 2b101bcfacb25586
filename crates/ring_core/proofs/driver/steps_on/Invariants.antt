use Rattle.std.proofs.Common.{◌≡◌}
use Rattle.ring_core.specs.Going.{Goes}
use Rattle.ring_machine.specs.Steps.{steps_left}
use Rattle.ring_core.proofs.driver.steps_on.Given as goal

abbrev pub invariant-loop-seat : goal.invariant-loop-seat
invariant-loop-seat g l =
    record {
      goes : Goes g.S.Seatlike.cells g.S.Seatlike.told g.S.Seatlike.tale g.S.Seatlike.same l.fn.seat l.seat l.fn.core.machine l.core.machine l.packet l.fn.buf.items l.buf.items;
      pages : l.core.pages ≡ l.fn.core.pages;
    }

abbrev pub decreases-loop-seat : goal.decreases-loop-seat
decreases-loop-seat g l = steps_left l.core.machine
