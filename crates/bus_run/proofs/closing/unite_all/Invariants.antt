use Rattle.std.proofs.Common.{List, ℕ}
use Rattle.device_any.specs.declared.device_box.DeviceBox.{DeviceBox}
use Rattle.device_any.specs.declared.device_seat.DeviceSeat.{DeviceSeat}
use Rattle.bus_run.specs.Closing.{AllBack}
use Rattle.bus_run.proofs.Closed.{WholeSoFar}
use Rattle.bus_run.proofs.closing.unite_all.Given as goal

abbrev pub invariant-loop-device : goal.invariant-loop-device
invariant-loop-device l = (old : List DeviceBox) (quotas : ℕ → List ℕ) (given : ℕ → List DeviceSeat) → AllBack old quotas given l.fn.boxes.items → WholeSoFar l.device old l.fn.boxes.items l.boxes.items
