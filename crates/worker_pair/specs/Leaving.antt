-- What the workers of a channel leave.
use Rattle.std.specs.Prelude.{◌≡◌, ◌+◌, false, List, [], length, map, take, Option, Some, None}
use Rattle.ring_seat.specs.declared.table_seat.TableSeat.{TableSeat}
use Rattle.script_lines.specs.declared.line.Ask.{Ask}
use Rattle.bus_script.specs.declared.outcome.Reply.{Reply}
use Rattle.page_kept.specs.declared.item.Item.{Item}
use Rattle.channel_trace.specs.declared.event.Event.{Event}
use Rattle.ring_core.specs.Seen.{Seen}
use Rattle.ring_core.specs.declared.told.Told.{Told}
use Rattle.ring_core.specs.Told.{tells_nothing}
use Rattle.ring_seat.specs.Seats.{told_in}
use Rattle.device_kinds.specs.Formats.{besides_on, format_of, ChannelScript, asks_of}
use Rattle.device_packets.specs.Said.{said_item}
use Rattle.worker_port.specs.Line.{IsLine, IsSameEnd, line_of, past_as}
use Rattle.worker_requester.specs.Asking.{Asking, AskedFrom, AsksBy, EndsAcked, IsPaced, EverTried as AskerTried}
use Rattle.worker_port.specs.Rooms.{AskedWithin, ServedWithin, AskLacksFor, ServeLacksFor, is_broken}
use Rattle.worker_server.specs.Serving.{Serving, EndsBy, calls_behind, EverTried as ServerTried}
use Rattle.worker_port.specs.declared.ended.Ended.{Ended}
use Rattle.device_any.specs.Seats.{served_at, device_place}
use Rattle.worker_pair.specs.Seats.{at_guest, at_host}
use Rattle.device_any.specs.declared.device_seat.DeviceSeat.{DeviceSeat}
use Rattle.worker_pair.specs.declared.done.Done.{Done}
use Rattle.worker_pair.specs.declared.guest_seat.GuestSeat.{GuestSeat}
use Rattle.worker_pair.specs.declared.host_seat.HostSeat.{HostSeat}
use Rattle.worker_pair.specs.declared.worker.Worker.{Worker}
use Rattle.worker_pair.specs.declared.worker.Worker.TheVariants.{Asks, Serves}

-- what the worker of an end of either side leaves
abbrev pub WorkerDone : Type 0
WorkerDone = Done (Option DeviceSeat)

-- what an end did, in items as they are read
abbrev pub items_in : Seen TableSeat → List (Event Item)
items_in e = past_as said_item e.state

-- what its seat tells
abbrev pub told_at : TableSeat → Option Told
told_at s = Some (told_in s.seat.me.0)

-- the worker that asks has ended so, with these replies, and its end isn't broken; it has no seat and no serials
pub record LeavesAsked (w : Asking ChannelScript TableSeat Reply) (d : WorkerDone) : Type 0 where
  pub asks : AsksBy (format_of w.protocol.kind) d.ended (asks_of w.protocol) (items_in d.end) d.replies.items
  pub end : IsSameEnd (λ (s : TableSeat). s.seat.table_id) w.end.end d.end
  pub stands : IsLine told_at d.end
  pub honest : is_broken d.ended ≡ false
  pub sent : AskedWithin (format_of w.protocol.kind) (length (asks_of w.protocol)) (items_in d.end)
  pub room : AskLacksFor (format_of w.protocol.kind) (besides_on w.protocol.kind) (length (asks_of w.protocol)) d.ended (items_in d.end)
  pub paced : IsPaced (format_of w.protocol.kind) w.starts (asks_of w.protocol) (items_in d.end)
  pub ids : AskedFrom (format_of w.protocol.kind) (length w.table) (asks_of w.protocol) (items_in d.end)
  pub acks : EndsAcked (format_of w.protocol.kind) d.ended (line_of said_item d.end)
  pub tried : AskerTried (λ (s : TableSeat). s.seat.table_id) told_at (λ (s : TableSeat). tells_nothing) (format_of w.protocol.kind) d.ended w.end.end (line_of said_item d.end)
  pub seat : d.seat ≡ None
  pub serials : d.serials.items ≡ []

-- the worker that serves has ended so, its end isn't broken, with these calls of its seat, behind those that the seat had made before, and their serials; it has no replies
pub record LeavesServed (w : Serving ChannelScript DeviceSeat TableSeat Ask Reply) (d : WorkerDone) : Type 0 where
  pub back : DeviceSeat
  pub seat : d.seat ≡ Some back
  pub serves : EndsBy (format_of w.responder.protocol.kind) (besides_on w.responder.protocol.kind) d.ended w (line_of said_item d.end) (calls_behind w.responder.before (served_at back))
  pub tried : ServerTried (λ (s : TableSeat). s.seat.table_id) told_at (λ (s : TableSeat). tells_nothing) (format_of w.responder.protocol.kind) (besides_on w.responder.protocol.kind) d.ended w (line_of said_item d.end) (calls_behind w.responder.before (served_at back))
  pub before : take (length w.responder.before) (served_at back) ≡ w.responder.before
  pub serials : d.serials.items ≡ map (λ c. c.serial) (calls_behind w.responder.before (served_at back))
  pub end : IsSameEnd (λ (s : TableSeat). s.seat.table_id) w.end.end d.end
  pub place : device_place back ≡ device_place w.responder.seat
  pub stands : IsLine told_at d.end
  pub honest : is_broken d.ended ≡ false
  pub sent : ServedWithin (format_of w.responder.protocol.kind) (besides_on w.responder.protocol.kind) (items_in d.end)
  pub room : ServeLacksFor (format_of w.responder.protocol.kind) (besides_on w.responder.protocol.kind) (w.starts + w.come) w.serve w.stops d.ended (items_in d.end)
  pub replies : d.replies.items ≡ []

abbrev pub Leaves : Worker → WorkerDone → Type 0
Leaves (Asks w) d = LeavesAsked w d
Leaves (Serves w) d = LeavesServed w d

-- what a guest's worker leaves, and what a host's
abbrev pub of_guest : Done GuestSeat → WorkerDone
of_guest d = record { end = d.end; ended = d.ended; seat = at_guest d.seat; serials = d.serials; replies = d.replies }

abbrev pub of_host : Done HostSeat → WorkerDone
of_host d = record { end = d.end; ended = d.ended; seat = at_host d.seat; serials = d.serials; replies = d.replies }

-- a worker that asks, which hasn't ended or has ended so
abbrev pub StandsAsking : Option Ended → Asking ChannelScript TableSeat Reply → Type 0
StandsAsking None w = w.end.state.machine.marked ≡ false
StandsAsking (Some how) w =
    AsksBy (format_of w.protocol.kind) how (asks_of w.protocol) w.end.state.past w.told × AskedWithin (format_of w.protocol.kind) (length (asks_of w.protocol)) w.end.state.past
    × AskLacksFor (format_of w.protocol.kind) (besides_on w.protocol.kind) (length (asks_of w.protocol)) how w.end.state.past
    × IsPaced (format_of w.protocol.kind) w.starts (asks_of w.protocol) w.end.state.past × AskedFrom (format_of w.protocol.kind) (length w.table) (asks_of w.protocol) w.end.state.past
    × EndsAcked (format_of w.protocol.kind) how w.end × (is_broken how ≡ false)
    × AskerTried (λ (s : TableSeat). s.seat.table_id) told_at (λ (s : TableSeat). tells_nothing) (format_of w.protocol.kind) how w.end.end w.end

-- and one that serves
abbrev pub StandsServing : Option Ended → Serving ChannelScript DeviceSeat TableSeat Ask Reply → Type 0
StandsServing None w = w.end.state.machine.marked ≡ false
StandsServing (Some how) w =
    EndsBy (format_of w.responder.protocol.kind) (besides_on w.responder.protocol.kind) how w w.end w.responder.calls × ServedWithin (format_of w.responder.protocol.kind) (besides_on w.responder.protocol.kind) w.end.state.past
    × ServeLacksFor (format_of w.responder.protocol.kind) (besides_on w.responder.protocol.kind) (w.starts + w.come) w.serve w.stops how w.end.state.past × (is_broken how ≡ false)
    × ServerTried (λ (s : TableSeat). s.seat.table_id) told_at (λ (s : TableSeat). tells_nothing) (format_of w.responder.protocol.kind) (besides_on w.responder.protocol.kind) how w w.end w.responder.calls
