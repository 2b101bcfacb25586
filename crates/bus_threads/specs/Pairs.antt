-- The two workers of a channel, and what they come to.
use Rattle.std.specs.Prelude.{ℕ, ◌≡◌, ◌<◌, ◌≤◌, ◌⊎◌, Bool, true, false, List, [], ◌∷◌, length, map, filter, take, Option, Some, None, is_some}
use Rattle.page_kept.specs.declared.item.Item.{Item}
use Rattle.ring_pair_laws.specs.Lists.{Lists}
use Rattle.ring_seat.specs.declared.table_seat.TableSeat.{TableSeat}
use Rattle.std.specs.List.{AllByRecursion, filter_map}
use Rattle.bus_model.specs.Orders.{Order, startup_of}
use Rattle.device_kinds.specs.Served.{Served}
use Rattle.bus_model.specs.Channel.{IsChannelRun, served_count, is_held, other, replies_to, sent_by}
use Rattle.script_lines.specs.declared.line.Ask.{Ask}
use Rattle.bus_script.specs.declared.outcome.Reply.{Reply}
use Rattle.device_kinds.specs.Formats.{format_of, has_answer_on, ChannelScript, no_lists}
use Rattle.device_kinds.specs.Kinds.{DeviceWant as Want, IsAskable}
use Rattle.device_wire.specs.declared.buffer_lists.BufferLists.{BufferLists}
use Rattle.device_any.specs.Seats.{served_at, IsSameSeat}
use Rattle.worker_pair.specs.Seats.{at_guest, at_host}
use Rattle.worker_pair.specs.Pairs.{ArePair}
use Rattle.worker_pair.specs.Workers.{end_at, relid_at, HasWindow, IsOfSide}
use Rattle.device_any.specs.declared.device_seat.DeviceSeat.{DeviceSeat}
use Rattle.worker_pair.specs.declared.guest_seat.GuestSeat.{GuestSeat}
use Rattle.worker_pair.specs.declared.host_seat.HostSeat.{HostSeat}
use Rattle.worker_pair.specs.declared.worker.Worker.{Worker}
use Rattle.worker_pair.specs.declared.worker.Worker.TheVariants.{Asks, Serves}
use Rattle.io_edge.specs.declared.side.Side.{Side}
use Rattle.io_edge.specs.declared.side.Side.TheVariants.{Guest, Host}
use Rattle.channel_model.specs.Roles.{side_that_asks}
use Rattle.channel_model.specs.WireFormat.{WireFormat}
use Rattle.worker_requester.specs.Asking.{Asking}
use Rattle.worker_server.specs.Serving.{Serving, calls_behind}
use Rattle.worker_port.specs.declared.ended.Ended.{Ended}
use Rattle.worker_port.specs.declared.ended.Ended.TheVariants.{Marked, PeerMarked, Room, Broken}
use Rattle.bus_threads.specs.declared.pair.PairDone.{PairDone}

-- the guest's worker and the host's
pub record Pairing : Type 0 where
  pub guest : Worker
  pub host : Worker

-- they are of one channel, each of its side
pub record IsPaired (p : Pairing) : Type 0 where
  pub pair : ArePair p.guest p.host
  pub guest : IsOfSide Guest p.guest
  pub host : IsOfSide Host p.host

-- The workers were made for this order of a channel, whose device has this seat, which had made these calls before: the one asks what is ordered, and the other
-- serves as many requests, holds the answer to the last one where the order says so, and stops where the order does
pub record MadeFor (order : Order) (seat : DeviceSeat) (earlier : List Served) (asker : Asking ChannelScript TableSeat Reply) (server : Serving ChannelScript DeviceSeat TableSeat Ask Reply) : Type 0 where
  pub can : AllByRecursion (IsAskable order.kind) order.asks
  pub protocol : asker.protocol ≡ record { kind = order.kind; sub = order.sub; subs = order.subs; lists = asker.protocol.lists; asks = order.asks }
  pub answers : server.responder.protocol.kind ≡ order.kind
  pub seat_is : server.responder.seat ≡ seat
  pub before : server.responder.before ≡ earlier
  pub serve : server.serve ≡ served_count order
  pub held : server.responder.held ≡ is_held order
  pub stops : server.stops ≡ is_some order.stop
  pub starts : server.starts ≡ length (filter (has_answer_on order.kind) (startup_of no_lists order))

-- the page lists that the worker that asks tells
abbrev pub told_lists : Worker → Worker → BufferLists
told_lists (Asks a) host = a.protocol.lists
told_lists (Serves s) (Asks a) = a.protocol.lists
told_lists (Serves s) (Serves t) = no_lists

abbrev pub lists_of : Pairing → BufferLists
lists_of p = told_lists p.guest p.host

-- and the one that asks is at the side that asks such a device
abbrev pub OpensAt : Order → DeviceSeat → List Served → Worker → Worker → Type 0
OpensAt order seat earlier (Asks a) (Asks b) = ⊥
OpensAt order seat earlier (Asks a) (Serves s) = (side_that_asks order.kind ≡ Guest) × MadeFor order seat earlier a s
OpensAt order seat earlier (Serves s) (Asks a) = (side_that_asks order.kind ≡ Host) × MadeFor order seat earlier a s
OpensAt order seat earlier (Serves s) (Serves t) = ⊥

abbrev pub OpensBehind : Order → DeviceSeat → List Served → Pairing → Type 0
OpensBehind order seat earlier p = OpensAt order seat earlier p.guest p.host

-- where the seat had made no call
abbrev pub Opens : Order → DeviceSeat → Pairing → Type 0
Opens order seat p = OpensBehind order seat [] p

-- both workers have the channel of this relid, whose rings have so many cells, and which has so many data pages; and so many requests can be open on it
pub record AreOnChannel (relid cells pages window : ℕ) (p : Pairing) : Type 0 where
  pub guest_relid : relid_at p.guest ≡ relid
  pub host_relid : relid_at p.host ≡ relid
  pub guest_cells : (end_at p.guest).state.machine.cells ≡ cells
  pub host_cells : (end_at p.host).state.machine.cells ≡ cells
  pub guest_pages : (end_at p.guest).state.pages.count ≡ pages
  pub host_pages : (end_at p.host).state.pages.count ≡ pages
  pub guest_window : HasWindow window p.guest
  pub host_window : HasWindow window p.host

-- the seat of the end that served, which is not of two
abbrev pub first_of : Option DeviceSeat → Option DeviceSeat → Option DeviceSeat
first_of None host = host
first_of (Some s) host = Some s

abbrev pub serving_of : GuestSeat → HostSeat → Option DeviceSeat
serving_of guest host = first_of (at_guest guest) (at_host host)

-- how the worker of this side ended
abbrev pub ended_at : Side → PairDone → Ended
ended_at Guest done = done.guest
ended_at Host done = done.host

-- of so many requests a service that stops so leaves one without its answer: it stops before them all, or holds the answer to the last one that it serves
abbrev pub LeavesOne : ℕ × Bool → ℕ → Type 0
LeavesOne stop count = (stop.0 < count) ⊎ ((stop.1 ≡ true) × (1 ≤ stop.0) × (stop.0 ≤ count))

-- Which of the two marked its end first, where so many requests are asked. Where the order has no stop it is the one that asks, and the one that serves follows. Where
-- the service leaves a request without its answer it is the one that serves, and the one that asks follows. Where it stops behind the last answer either can, but they
-- never both follow the other
abbrev pub MarkedFirst : Option (ℕ × Bool) → ℕ → Ended → Ended → Type 0
MarkedFirst None count asked served = (asked ≡ Marked) × (served ≡ PeerMarked)
MarkedFirst (Some stop) count asked served = ((asked ≡ Marked) ⊎ (served ≡ Marked)) × (LeavesOne stop count → (asked ≡ PeerMarked) × (served ≡ Marked))

-- A pair with this order and this seat has run, behind the calls that the seat had made, which stand as they were: its channel carried what is ordered, each
-- request that was served was a call of the seat, these are the serials of the calls, and these the replies that came back: all of them but that of the last
-- call where its answer is held. And it says which end marked itself first
pub record RanBehind (order : Order) (seat : DeviceSeat) (earlier : List Served) (done : PairDone) : Type 0 where
  pub back : DeviceSeat
  pub serving : serving_of done.guest_seat done.host_seat ≡ Some back
  pub before : take (length earlier) (served_at back) ≡ earlier
  pub channel : IsChannelRun order done.settled (calls_behind earlier (served_at back))
  pub same : IsSameSeat seat back
  pub serials : done.serials.items ≡ map (λ s. s.serial) (calls_behind earlier (served_at back))
  pub replies : done.replies.items ≡ map (λ s. s.reply) (replies_to order (calls_behind earlier (served_at back)))
  pub marks : MarkedFirst order.stop (length order.asks) (ended_at (side_that_asks order.kind) done) (ended_at (other (side_that_asks order.kind)) done)

-- where the seat had made none, all calls that it made are those that were served
abbrev pub RanPair : Order → DeviceSeat → PairDone → Type 0
RanPair order seat done = RanBehind order seat [] done

-- it ended where its plan ends: not for want of room in its lists, and its end isn't broken
abbrev pub is_whole : Ended → Bool
is_whole Marked = true
is_whole PeerMarked = true
is_whole (Room packets words left) = false
is_whole (Broken why) = false

-- the seat of the worker that served, later
pub record ComesBack (seat : DeviceSeat) (back : Option DeviceSeat) : Type 0 where
  pub same : DeviceSeat
  pub is_back : back ≡ Some same
  pub place : IsSameSeat seat same

-- the seats are the workers': the one that asks has none
abbrev pub KeepsSeats : Worker → Worker → Option DeviceSeat → Option DeviceSeat → Type 0
KeepsSeats (Asks a) (Asks b) guest host = ⊥
KeepsSeats (Asks a) (Serves s) guest host = (guest ≡ None) × ComesBack s.responder.seat host
KeepsSeats (Serves s) (Asks a) guest host = ComesBack s.responder.seat guest × (host ≡ None)
KeepsSeats (Serves s) (Serves t) guest host = ⊥

-- each packet that awaits an answer has an id from 1 to so many
abbrev pub HasIds : WireFormat Item Want Ask Reply → ℕ → List Item → Type 0
HasIds s most sent = AllByRecursion (λ p. s.waits p ≡ true → (1 ≤ s.id_of p) × (s.id_of p ≤ most)) sent

-- the end that asks sent its requests so, as many as can be open
abbrev pub KeepsIds : Worker → Worker → Lists → Type 0
KeepsIds (Asks a) (Asks b) lists = ⊥
KeepsIds (Asks a) (Serves s) lists = HasIds (format_of a.protocol.kind) (length a.table) (sent_by Guest lists)
KeepsIds (Serves s) (Asks a) lists = HasIds (format_of a.protocol.kind) (length a.table) (sent_by Host lists)
KeepsIds (Serves s) (Serves t) lists = ⊥

-- each message besides the answers has an id from 1 to so many
abbrev pub HasOwnIds : WireFormat Item Want Ask Reply → ℕ → List Item → Type 0
HasOwnIds s most sent = AllByRecursion (λ p. s.is_message p ≡ true → (1 ≤ s.id_of p) × (s.id_of p ≤ most)) sent

-- the end that serves sent its messages so, as many as its table has places
abbrev pub KeepsOwnIds : Worker → Worker → Lists → Type 0
KeepsOwnIds (Asks a) (Asks b) lists = ⊥
KeepsOwnIds (Asks a) (Serves s) lists = HasOwnIds (format_of s.responder.protocol.kind) 64 (sent_by Host lists)
KeepsOwnIds (Serves s) (Asks a) lists = HasOwnIds (format_of s.responder.protocol.kind) 64 (sent_by Guest lists)
KeepsOwnIds (Serves s) (Serves t) lists = ⊥

-- both workers of a pair ended where their plans end, with their seats; requests had the ids that a request can have, and messages those of the end that serves; and for each order that the pair was opened for, it has run, behind the calls that the
-- seat had made before, and what the start-up of its channel told are the pair's page lists
pub record RunsPair (p : Pairing) (done : PairDone) : Type 0 where
  pub guest : is_whole done.guest ≡ true
  pub host : is_whole done.host ≡ true
  pub seats : KeepsSeats p.guest p.host (at_guest done.guest_seat) (at_host done.host_seat)
  pub ids : KeepsIds p.guest p.host done.settled
  pub own_ids : KeepsOwnIds p.guest p.host done.settled
  pub runs : (order : Order) (seat : DeviceSeat) (earlier : List Served) → OpensBehind order seat earlier p → RanBehind order seat earlier done
  pub tells : (order : Order) (seat : DeviceSeat) (earlier : List Served) → (opens : OpensBehind order seat earlier p) → (runs order seat earlier opens).channel.tells ≡ lists_of p

-- each pair has run, in order
abbrev pub EachRuns : List Pairing → List PairDone → Type 0
EachRuns [] [] = Unit {0}
EachRuns [] (d ∷ dones) = ⊥
EachRuns (p ∷ pairs) [] = ⊥
EachRuns (p ∷ pairs) (d ∷ dones) = RunsPair p d × EachRuns pairs dones

-- the pairs at those places that have one
abbrev pub present : List (Option Pairing) → List Pairing
present = filter_map (λ p. p)
