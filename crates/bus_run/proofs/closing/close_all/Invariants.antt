use Rattle.device_any.specs.declared.device_box.DeviceBox.{DeviceBox}
use Rattle.std.proofs.Common.{List}
use Rattle.std.specs.Vec.Iter.{into_iter_items}
use Rattle.bus_run.specs.Closing.{AllCome}
use Rattle.bus_run.specs.Opening.{Given}
use Rattle.bus_run.proofs.Closed.{ClosedNow}
use Rattle.bus_run.proofs.OpenedAs.{LeftSoFar}
use Rattle.bus_run.proofs.closing.close_all.Given as goal

abbrev pub invariant-loop-due : goal.invariant-loop-due
invariant-loop-due l = ((old : List DeviceBox) (given : List Given) → AllCome l.dues old given l.fn.boxes.items l.fn.done.items
    → ClosedNow l.phase l.due-index old given l.fn.boxes.items l.boxes.items (into_iter_items l.dones) l.fn.settled.items l.settled.items l.outcomes)
    × LeftSoFar l.fn.settled.items l.settled.items l.fn.done.items (into_iter_items l.dones)
