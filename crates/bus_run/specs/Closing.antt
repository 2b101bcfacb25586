-- The channels of a phase are closed.
use Rattle.std.specs.Prelude.{ℕ, ◌≡◌, ◌<◌, ◌==◌, List, [], ◌∷◌, ◌++◌, length, map, filter, slice_index_or, Some}
use Rattle.std.specs.List.{AllByRecursion}
use Rattle.bus_model.specs.Channel.{IsChannelRun, outcomes_of}
use Rattle.bus_model.specs.Orders.{Order}
use Rattle.bus_model.specs.declared.channel_run.ChannelRun.{ChannelRun}
use Rattle.bus_script.specs.declared.outcome.LineResult.{LineResult}
use Rattle.device_any.specs.Seats.{served_at, kind_at, IsSameSeat}
use Rattle.device_any.specs.declared.device_seat.DeviceSeat.{DeviceSeat}
use Rattle.bus_threads.specs.Pairs.{RanPair}
use Rattle.bus_threads.specs.declared.pair.PairDone.{PairDone}
use Rattle.ring_pair_laws.specs.Lists.{Lists}
use Rattle.phase_plan.specs.declared.opening.Opening.{Opening as Place}
use Rattle.bus_run.specs.Devices.{box_at}
use Rattle.device_any.specs.Boxes.{ComesBack, EachWith, GoesOn, kind_in, seats_in}
use Rattle.device_any.specs.declared.device_box.DeviceBox.{DeviceBox}
use Rattle.bus_run.specs.Opening.{Given, IsStill, order_at}
use Rattle.bus_run.specs.Due.{due_of}
use Rattle.bus_run.specs.declared.due.Due.{Due}

-- a channel with this order and this seat carried what was ordered, its seat is this now, and these are the outcomes of its requests
pub record ChannelEnded (order : Order) (first : DeviceSeat) (lists : Lists) (back : DeviceSeat) (results : List LineResult) : Type 0 where
  pub channel : IsChannelRun order lists (served_at back)
  pub same : IsSameSeat first back
  pub outcomes : results ≡ outcomes_of order (served_at back)

-- it is closed: its seat stands behind the others of its device, and what it carried behind the runs before
pub record ChannelClosed (phase : ℕ) (place : Place) (order : Order) (first : DeviceSeat) (old new : DeviceBox) (settled settled' : List ChannelRun) (results : List LineResult) : Type 0 where
  pub lists : Lists
  pub back : DeviceSeat
  pub ended : ChannelEnded order first lists back results
  pub seats : seats_in new ≡ seats_in old ++ back ∷ []
  pub still : IsStill old new
  pub settled_are : settled' ≡ settled ++ record { phase = phase; relid = place.relid; device = place.device; settled = lists } ∷ []

abbrev pub RanAt : List DeviceBox → Given → PairDone → Type 0
RanAt boxes g done = RanPair (order_at boxes g.order) g.seat done

-- the channels of a phase, of which this is due, were opened with these seats, and have run; no seat stands here
pub record AllCome (dues : List Due) (old : List DeviceBox) (given : List Given) (boxes : List DeviceBox) (dones : List PairDone) : Type 0 where
  pub planned : map (λ g. due_of g.order) given ≡ dues
  pub within : AllByRecursion (λ x. x.opening.device < length old) dues
  pub places : length boxes ≡ length old
  pub fits : AllByRecursion (λ g. kind_in (box_at boxes g.order.opening.device) ≡ Some (kind_at g.seat)) given
  pub ran : EachWith (RanAt old) given dones
  pub none_here : (k : ℕ) → k < length old → seats_in (box_at boxes k) ≡ []

-- a closed channel: what it was given, its seat after its calls, and what it carried
pub record Closed : Type 0 where
  pub given : Given
  pub back : DeviceSeat
  pub lists : Lists

abbrev pub run_of : ℕ → Closed → ChannelRun
run_of phase c = record { phase = phase; relid = c.given.order.opening.relid; device = c.given.order.opening.device; settled = c.lists }

-- it carried what was ordered
pub record IsClosed (old : List DeviceBox) (c : Closed) : Type 0 where
  pub channel : IsChannelRun (order_at old c.given.order) c.lists (served_at c.back)
  pub same : IsSameSeat c.given.seat c.back

-- the closed channels of a device, in order of relid
abbrev pub closed_of : ℕ → List Closed → List Closed
closed_of device closed = filter (λ c. c.given.order.opening.device == device) closed

abbrev pub told_of : List DeviceBox → Closed → List LineResult
told_of old c = outcomes_of (order_at old c.given.order) (served_at c.back)

-- Channels of a phase are closed: each gave its seat back to its device, and told the outcomes of its requests
pub record AllClosed (phase : ℕ) (old : List DeviceBox) (given : List Given) (before boxes : List DeviceBox) (settled settled' : List ChannelRun) (outcomes : List (List (List LineResult))) : Type 0 where
  pub closed : List Closed
  pub given_are : map (λ c. c.given) closed ≡ given
  pub each : AllByRecursion (IsClosed old) closed
  pub settled_are : settled' ≡ settled ++ map (run_of phase) closed
  pub places : length boxes ≡ length before
  pub still : (k : ℕ) → k < length before → IsStill (box_at before k) (box_at boxes k)
  pub back : (k : ℕ) → k < length before → seats_in (box_at boxes k) ≡ map (λ c. c.back) (closed_of k closed)
  pub long : length outcomes ≡ length before
  pub told : (k : ℕ) → k < length before → slice_index_or outcomes k [] ≡ map (told_of old) (closed_of k closed)

-- the seats of all devices came back
pub record AllBack (old : List DeviceBox) (quotas : ℕ → List ℕ) (given : ℕ → List DeviceSeat) (held : List DeviceBox) : Type 0 where
  pub count : length held ≡ length old
  pub each : (k : ℕ) → k < length old → ComesBack (box_at old k) (quotas k) (given k) (box_at held k)

-- and each device's history went on with what its seats served
pub record AreWhole (old held new : List DeviceBox) : Type 0 where
  pub count : length new ≡ length old
  pub each : (k : ℕ) → k < length old → GoesOn (box_at old k) (box_at new k) (map served_at (seats_in (box_at held k)))
