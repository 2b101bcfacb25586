use Rattle.std.proofs.Common.{◌≡◌, List, length, drop}
use Rattle.std.specs.Vec.Iter.{into_iter_items, into_iter_len}
use Rattle.device_any.specs.declared.device_box.DeviceBox.{DeviceBox}
use Rattle.bus_run.specs.Opening.{AreAway, CanOpenAll}
use Rattle.bus_run.proofs.Opened.{OpenedNow}
use Rattle.bus_run.proofs.opening.open_all.Given as goal

abbrev pub invariant-loop-channel : goal.invariant-loop-channel
invariant-loop-channel l = record {
  opened : (old : List DeviceBox) → CanOpenAll l.fn.plan.items old → AreAway l.fn.plan.items old l.fn.boxes.items → OpenedNow l.path.guest.posted l.settings l.fn.plan.items (length l.pairs.items) old l.fn.boxes.items l.boxes.items l.pairs.items;
  left : into_iter_items l.channel-iterator ≡ drop (length l.pairs.items) l.fn.plan.items;
  count : into_iter_len l.channel-iterator ≡ length (into_iter_items l.channel-iterator);
}
