-- The channels of a phase are opened.
use Rattle.std.specs.Prelude.{ℕ, ◌≡◌, ◌*◌, ◌<◌, ◌≤◌, ◌==◌, List, [], ◌∷◌, ◌++◌, length, map, filter, sum, slice_index_or, Some, None}
use Rattle.std.specs.List.{AllByRecursion}
use Rattle.contact.specs.declared.kind.DeviceKind.{DeviceKind}
use Rattle.contact.specs.declared.kind.DeviceKind.TheVariants.{Net}
use Rattle.worker_pair.specs.Plans.{stop_of}
use Rattle.device_any.specs.Seats.{kind_at}
use Rattle.device_any.specs.declared.device_seat.DeviceSeat.{DeviceSeat}
use Rattle.bus_model.specs.Orders.{Order}
use Rattle.bus_threads.specs.Pairs.{Pairing, AreOnChannel, Opens, lists_of}
use Rattle.device_wire.specs.declared.buffer_lists.BufferLists.{BufferLists}
use Rattle.device_kinds.specs.Formats.{no_lists}
use Rattle.control_model.specs.declared.opening.Opening.{Opening as PlanOpening}
use Rattle.control_model.specs.declared.buffer.Buffer.TheVariants.{Receive, Send}
use Rattle.control_model.specs.Plan.{buffer_list}
use Rattle.guest_end.specs.Told.{lists_told}
use Rattle.vmbus_msg.specs.declared.msg.Msg.{Msg}
use Rattle.worker_pair.specs.Pairs.{pages_on}
use Rattle.bus_plan.specs.Plans.{order_by}
use Rattle.bus_plan.specs.declared.opening.ChannelOrder.{ChannelOrder}
use Rattle.bus_run.specs.Devices.{Suits, box_at}
use Rattle.script_lines.specs.Parts.{kind_of}
use Rattle.device_any.specs.Boxes.{AreSeatsFor, EachWith, kind_in, seats_in, spec_of, subs_in}
use Rattle.device_any.specs.declared.device_box.DeviceBox.{DeviceBox}
use Rattle.bus_run.specs.Settings.{unset}
use Rattle.bus_run.specs.declared.settings.Settings.{Settings}

-- what is ordered of the channels of a device, in order of relid
abbrev pub orders_of : ℕ → List ChannelOrder → List ChannelOrder
orders_of device plan = filter (λ x. x.opening.device == device) plan

-- how many requests each of them has
abbrev pub quotas_of : ℕ → List ChannelOrder → List ℕ
quotas_of device plan = map (λ x. length x.asks.items) (orders_of device plan)

-- what is ordered of a channel, of a device of this kind with so many channels beside the first one
abbrev pub order_with : ChannelOrder → DeviceKind → ℕ → Order
order_with x kind subs = record { kind = kind; sub = x.opening.sub; subs = subs; asks = x.asks.items; stop = stop_of x.stop }

-- the same, where these are all devices
abbrev pub order_at : List DeviceBox → ChannelOrder → Order
order_at boxes x = order_by x (spec_of (box_at boxes x.opening.device))

-- a channel that can be opened: what is ordered of it suits its device
pub record CanOpen (boxes : List DeviceBox) (x : ChannelOrder) : Type 0 where
  pub within : x.opening.device < length boxes
  pub sub : x.opening.sub ≤ 3
  pub subs : subs_in (box_at boxes x.opening.device) ≤ 3
  pub suits : Suits 4096 (order_at boxes x)

-- all channels of a phase can, and no device is asked more than 4,096 requests
pub record CanOpenAll (plan : List ChannelOrder) (boxes : List DeviceBox) : Type 0 where
  pub each : AllByRecursion (CanOpen boxes) plan
  pub few : length plan ≤ 16
  pub asked : (k : ℕ) → k < length boxes → sum (quotas_of k plan) ≤ 4096

-- a device whose channels of a phase have these quotas: all of its seats stand here. Where the phase opens no channel of it, it stays
abbrev pub IsAway : DeviceBox → List ℕ → DeviceBox → Type 0
IsAway old [] held = (held ≡ old) × (kind_in held ≡ None) × (seats_in held ≡ [])
IsAway old (q ∷ quotas) held = (kind_in held ≡ Some (kind_of (spec_of old))) × (subs_in held ≡ subs_in old) × AreSeatsFor old (q ∷ quotas) (seats_in held)

-- so are all devices
pub record AreAway (plan : List ChannelOrder) (old held : List DeviceBox) : Type 0 where
  pub count : length held ≡ length old
  pub each : (k : ℕ) → k < length old → IsAway (box_at old k) (quotas_of k plan) (box_at held k)

-- a device while seats of it are taken and given back: nothing of one without channels is touched
pub record IsStill (old new : DeviceBox) : Type 0 where
  pub kind : kind_in new ≡ kind_in old
  pub subs : subs_in new ≡ subs_in old
  pub stays : kind_in old ≡ None → new ≡ old

-- the page lists of a channel's buffers, in what the guest posted
abbrev pub lists_in : List Msg → ℕ → BufferLists
lists_in posted relid = record { receive = (lists_told relid (0, 0) posted).0; send = (lists_told relid (0, 0) posted).1 }

-- those that are told on a channel of this kind: a network's alone has buffers
abbrev pub lists_on : DeviceKind → List Msg → ℕ → BufferLists
lists_on Net posted relid = lists_in posted relid
lists_on _ posted relid = no_lists

-- the page lists that a plan has for a channel's buffers
abbrev pub planned_lists : PlanOpening → BufferLists
planned_lists o = record { receive = buffer_list o Receive; send = buffer_list o Send }

-- and for a channel of this kind
abbrev pub planned_on : DeviceKind → PlanOpening → BufferLists
planned_on Net o = planned_lists o
planned_on _ o = no_lists

-- a channel was opened as the settings say and as was ordered, with this seat. What a network's guest tells of its buffers are the page lists that stand in what the guest's control posted, and on any other channel it tells none
pub record IsOpenedWith (posted : List Msg) (settings : Settings) (relid : ℕ) (order : Order) (seat : DeviceSeat) (pair : Pairing) : Type 0 where
  pub opens : Opens order seat pair
  pub channel : AreOnChannel relid (512 * settings.pages) (pages_on order.kind settings.window) settings.window pair
  pub lists : lists_of pair ≡ lists_on order.kind posted relid

-- a channel and the seat that it has
pub record Given : Type 0 where
  pub order : ChannelOrder
  pub seat : DeviceSeat

-- the seats that the channels of a device have
abbrev pub seats_given : ℕ → List Given → List DeviceSeat
seats_given device given = map (λ g. g.seat) (filter (λ g. g.order.opening.device == device) given)

abbrev pub OpensAt : List Msg → List Settings → List DeviceBox → Given → Pairing → Type 0
OpensAt posted settings boxes g pair = IsOpenedWith posted (slice_index_or settings g.order.opening.device unset) g.order.opening.relid (order_at boxes g.order) g.seat pair

-- Channels of a phase are opened, each with a seat of its device: the seats that each device had are those that its channels have, and those that still stand there
pub record OpenedSoFar (posted : List Msg) (settings : List Settings) (plan : List ChannelOrder) (old before boxes : List DeviceBox) (pairs : List Pairing) : Type 0 where
  pub given : List Given
  pub planned : map (λ g. g.order) given ≡ plan
  pub opens : EachWith (OpensAt posted settings old) given pairs
  pub places : length boxes ≡ length before
  pub still : (k : ℕ) → k < length before → IsStill (box_at before k) (box_at boxes k)
  pub dealt : (k : ℕ) → k < length before → seats_in (box_at before k) ≡ seats_given k given ++ seats_in (box_at boxes k)
  pub fits : AllByRecursion (λ g. kind_in (box_at before g.order.opening.device) ≡ Some (kind_at g.seat)) given

-- all channels are opened, and no seat is left
pub record AllOpened (posted : List Msg) (settings : List Settings) (plan : List ChannelOrder) (old before boxes : List DeviceBox) (pairs : List Pairing) : Type 0 where
  pub opened : OpenedSoFar posted settings plan old before boxes pairs
  pub none_left : (k : ℕ) → k < length before → seats_in (box_at boxes k) ≡ []
