use Rattle.std.proofs.Common.{◌≡◌}
use Rattle.ring_core.specs.Going.{Goes}
use Rattle.ring_machine.specs.Loops.{Keeps}
use Rattle.ring_machine.specs.Steps.{call_at, steps_left}
use Rattle.ring_core.proofs.driver.steps_at.Given as goal

abbrev pub invariant-loop-at : goal.invariant-loop-at
invariant-loop-at g l =
    record {
      goes : Goes g.S.Seatlike.cells g.S.Seatlike.told g.S.Seatlike.tale g.S.Seatlike.same l.fn.seat l.seat l.fn.core.machine l.core.machine l.packet l.fn.buf.items l.buf.items;
      keeps : Keeps (call_at l.at) l.fn.core.machine l.core.machine;
      pages : l.core.pages ≡ l.fn.core.pages;
    }

abbrev pub decreases-loop-at : goal.decreases-loop-at
decreases-loop-at g l = steps_left l.core.machine
