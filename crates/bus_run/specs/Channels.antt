-- The channels of a phase.
use Rattle.std.specs.Prelude.{ℕ, ◌≡◌, ◌<◌, List, ◌++◌, length, map}
use Rattle.std.specs.List.{AllByRecursion}
use Rattle.bus_model.specs.Run.{Carried, IsCarried, EachGrows}
use Rattle.bus_model.specs.declared.channel_run.ChannelRun.{ChannelRun}
use Rattle.bus_script.specs.declared.outcome.LineResult.{LineResult}
use Rattle.script_phases.specs.Openings.{Opening, Phase, by_relid}
use Rattle.bus_plan.specs.Plans.{EachOrdered}
use Rattle.bus_plan.specs.Outcomes.{AreTold}
use Rattle.bus_plan.specs.declared.opening.ChannelOrder.{ChannelOrder}
use Rattle.bus_run.specs.Devices.{box_at}
use Rattle.device_any.specs.Boxes.{box_log, setup_of, spec_of}
use Rattle.device_any.specs.declared.device_box.DeviceBox.{DeviceBox}
use Rattle.bus_run.specs.Opening.{CanOpenAll}

-- the channel is one of these devices
pub record IsOf (boxes : List DeviceBox) (o : Opening) : Type 0 where
  pub within : o.device < length boxes
  pub spec : o.spec ≡ spec_of (box_at boxes o.device)

-- the channels that a phase opens, what is ordered of each, and that they can be opened
pub record CanRun (phase : ℕ) (plan : List ChannelOrder) (boxes : List DeviceBox) (p : Phase) : Type 0 where
  pub number : p.number ≡ phase
  pub ordered : EachOrdered p (by_relid p.opened) plan
  pub of : AllByRecursion (IsOf boxes) (by_relid p.opened)
  pub can : CanOpenAll plan boxes

-- what all channels of a phase did
pub record ChannelsRan (p : Phase) (old new : List DeviceBox) (settled settled' : List ChannelRun) (outcomes : List (List (List LineResult))) : Type 0 where
  pub channels : List Carried
  pub opened : map (λ c. c.opening) channels ≡ by_relid p.opened
  pub each : AllByRecursion (IsCarried p) channels
  pub settled_are : settled' ≡ settled ++ map (λ c. c.run) channels
  pub histories : EachGrows 0 channels (map box_log old) (map box_log new)
  pub kinds : map spec_of new ≡ map spec_of old
  pub setups : map setup_of new ≡ map setup_of old
  pub long : length outcomes ≡ length old
  pub told : AreTold p channels (length old) outcomes
