-- What the workers of a channel are made for.
use Rattle.std.specs.Prelude.{ℕ, zero, ◌≡◌, ◌≤◌, ◌+◌, Bool, true, List, [], ◌∷◌, length, filter, Option, Some, None, is_some}
use Rattle.ring_seat.specs.declared.table_seat.TableSeat.{TableSeat}
use Rattle.std.specs.List.{AllByRecursion}
use Rattle.script_lines.specs.Parts.{kind_asked}
use Rattle.script_lines.specs.WellFormed.{CanGo}
use Rattle.script_lines.specs.declared.line.Ask.{Ask}
use Rattle.bus_script.specs.declared.outcome.Reply.{Reply}
use Rattle.device_kinds.specs.Formats.{has_answer_on, ChannelScript, no_lists, startup}
use Rattle.device_kinds.specs.Kinds.{IsAskable}
use Rattle.device_wire.specs.declared.buffer_lists.BufferLists.{BufferLists}
use Rattle.chan_state.specs.declared.stop.Stop.{Stop}
use Rattle.contact.specs.declared.kind.DeviceKind.{DeviceKind}
use Rattle.contact.specs.declared.kind.DeviceKind.TheVariants.{Net as NetKind}
use Rattle.io_edge.specs.declared.side.Side.{Side}
use Rattle.io_edge.specs.declared.side.Side.TheVariants.{Guest}
use Rattle.channel_model.specs.Channel.{count_of, held_of}
use Rattle.channel_model.specs.Roles.{side_that_asks}
use Rattle.worker_requester.specs.Asking.{Asking}
use Rattle.worker_server.specs.Serving.{Serving}
use Rattle.worker_pair.specs.declared.channel_plan.ChannelPlan.{ChannelPlan}
use Rattle.device_any.specs.Seats.{served_at, kind_at, left_at}
use Rattle.device_any.specs.declared.device_seat.DeviceSeat.{DeviceSeat}
use Rattle.worker_pair.specs.declared.worker.Worker.{Worker}
use Rattle.worker_pair.specs.declared.worker.Worker.TheVariants.{Asks, Serves}

-- each request is one for devices of this kind, and its channel carries it
abbrev pub AllCarried : DeviceKind → List Ask → Type 0
AllCarried kind [] = Unit {0}
AllCarried kind (a ∷ asks) = (kind_asked a ≡ kind) × CanGo a × AllCarried kind asks

-- after how many requests a host stops, and whether nothing goes back for the last of them
abbrev pub stop_of : Option Stop → Option (ℕ × Bool)
stop_of None = None
stop_of (Some s) = Some (s.after, s.held)

-- a plan of either side: the relid of the channel, the kind of the device, which of its channels this is and how many are beside the first one, how many requests are open at
-- most, how many there are, the page lists of a network's buffers, where a host stops, and which they are, where this side asks
pub record Planned : Type 0 where
  pub relid : ℕ
  pub kind : DeviceKind
  pub sub : ℕ
  pub subs : ℕ
  pub window : ℕ
  pub count : ℕ
  pub lists : BufferLists
  pub stop : Option (ℕ × Bool)
  pub asks : List Ask

-- what the workers of a channel are made for, where one of them asks these
abbrev pub planned : ChannelPlan → List Ask → Planned
planned p asks = record { relid = p.relid; kind = p.kind; sub = p.sub; subs = p.subs; window = p.window; count = p.count; lists = p.lists; stop = stop_of p.stop; asks = asks }

-- a host stops where the guest asks, and holds the last answer where there is one
abbrev pub CanStop : DeviceKind → Option (ℕ × Bool) → Type 0
CanStop kind None = Unit {0}
CanStop kind (Some k) = (side_that_asks kind ≡ Guest) × (k.0 ≤ 4096) × (k.1 ≡ true → 1 ≤ k.0)

-- A plan that a worker of this side can have: at most 64 requests are open, at most 3 channels are beside the device's first one, and where this side asks
-- the list has all requests, each of which the channel carries
pub record CanPlan (side : Side) (p : Planned) : Type 0 where
  pub window : (1 ≤ p.window) × (p.window ≤ 64)
  pub few : p.count ≤ 4096
  pub subs : p.subs ≤ 3
  pub stop : CanStop p.kind p.stop
  pub asks : side ≡ side_that_asks p.kind → (length p.asks ≡ p.count) × AllCarried p.kind p.asks

-- how many requests of a start-up have no answer: that of a network tells the host a version
abbrev pub silent : DeviceKind → ℕ → ℕ
silent NetKind zero = 1
silent _ sub = 0

-- the side that asks has no seat; the other one has a seat of a device of the plan's kind, with a call for each request. It may have made calls before
abbrev pub HasSeat : Side → Planned → Option DeviceSeat → Type 0
HasSeat side p None = side ≡ side_that_asks p.kind
HasSeat side p (Some s) = (kind_at s ≡ p.kind) × (p.count ≤ left_at s)

-- a worker that asks was made for this plan: its start-up is that of the plan's channel and tells the plan's page lists, and its table has a place for each request that may be open
pub record AsksFor (p : Planned) (w : Asking ChannelScript TableSeat Reply) : Type 0 where
  pub can : AllByRecursion (IsAskable p.kind) p.asks
  pub protocol : w.protocol ≡ record { kind = p.kind; sub = p.sub; subs = p.subs; lists = p.lists; asks = p.asks }
  pub relid : w.relid ≡ p.relid
  pub starts : w.starts ≡ length (startup p.kind p.sub p.subs p.lists)
  pub window : length w.table ≡ p.window

-- and one that serves, with this seat: it awaits the start-up's requests that have answers, and makes room for them all and for each request
pub record ServesFor (p : Planned) (seat : DeviceSeat) (w : Serving ChannelScript DeviceSeat TableSeat Ask Reply) : Type 0 where
  pub answers : w.responder.protocol.kind ≡ p.kind
  pub relid : w.responder.relid ≡ p.relid
  pub seat_is : w.responder.seat ≡ seat
  pub before : w.responder.before ≡ served_at seat
  pub serve : w.serve ≡ count_of p.stop p.count
  pub held : w.responder.held ≡ held_of p.stop p.count
  pub stops : w.stops ≡ is_some p.stop
  pub starts : w.starts ≡ length (filter (has_answer_on p.kind) (startup p.kind p.sub p.subs no_lists))
  pub come : w.starts + w.come ≡ length (startup p.kind p.sub p.subs no_lists) + p.count

-- a worker was made for this plan: without a seat it asks, and with one it serves
abbrev pub IsMade : Planned → Option DeviceSeat → Worker → Type 0
IsMade p None (Asks w) = AsksFor p w
IsMade p None (Serves w) = ⊥
IsMade p (Some s) (Asks w) = ⊥
IsMade p (Some s) (Serves w) = ServesFor p s w
