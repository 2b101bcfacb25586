-- The devices of a script between its phases.
use Rattle.std.specs.Prelude.{ℕ, ◌≤◌, List, length, slice_index_or}
use Rattle.bus_model.specs.Orders.{Order}
use Rattle.worker_pair.specs.Plans.{AllCarried, CanStop}
use Rattle.device_any.specs.Boxes.{IsKept, box_log}
use Rattle.device_any.specs.declared.device_box.DeviceBox.{DeviceBox}
use Rattle.device_any.specs.declared.device_box.DeviceBox.TheVariants.{Beat as BeatBox}
use Rattle.device_any.specs.declared.machine_box.MachineBox.TheVariants.{Empty}

-- the device stands here whole, and its history has so many entries at most
pub record IsReady (most : ℕ) (box : DeviceBox) : Type 0 where
  pub kept : IsKept box
  pub few : length (box_log box) ≤ most

-- the device at this place
abbrev pub gone : DeviceBox
gone = BeatBox Empty

abbrev pub box_at : List DeviceBox → ℕ → DeviceBox
box_at boxes k = slice_index_or boxes k gone

-- a channel is asked what its kind serves and it carries, and not much, and it stops where one of its kind can
pub record Suits (most : ℕ) (order : Order) : Type 0 where
  pub asks : AllCarried order.kind order.asks
  pub few : length order.asks ≤ most
  pub stop : CanStop order.kind order.stop
