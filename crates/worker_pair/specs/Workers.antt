-- The workers of a channel, as contracts see them.
use Rattle.std.specs.Prelude.{ℕ, ◌≡◌, false, length, Option, Some, None}
use Rattle.io_edge.specs.declared.side.Side.{Side}
use Rattle.device_kinds.specs.Formats.{besides_on, format_of, asks_of}
use Rattle.ring_core.specs.Seen.{Seen}
use Rattle.ring_core.specs.Told.{tells_nothing}
use Rattle.ring_seat.specs.declared.table_seat.TableSeat.{TableSeat}
use Rattle.ring_seat.specs.Seats.{told_in}
use Rattle.worker_requester.specs.Asking.{AskTurns, AskEnds, AsksOn, TurnTried as AskTried}
use Rattle.worker_requester.specs.Causes.{AskCause}
use Rattle.worker_server.specs.Causes.{ServeCause}
use Rattle.worker_server.specs.Serving.{Turns, ServeEnds, ServesOn, TurnTried as ServeTried}
use Rattle.worker_port.specs.Line.{Line}
use Rattle.worker_port.specs.declared.ended.Turn.{Turn}
use Rattle.device_any.specs.Seats.{device_place, left_at}
use Rattle.worker_pair.specs.Seats.{IsAt}
use Rattle.device_any.specs.declared.device_seat.DeviceSeat.{DeviceSeat}
use Rattle.worker_pair.specs.declared.worker.Worker.{Worker}
use Rattle.worker_pair.specs.declared.worker.Worker.TheVariants.{Asks, Serves}

-- its end of the channel, with what it did there in items
abbrev pub line_at : Worker → Line TableSeat
line_at (Asks w) = w.end
line_at (Serves w) = w.end

-- its end of the channel
abbrev pub end_at : Worker → Seen TableSeat
end_at (Asks w) = w.end.end
end_at (Serves w) = w.end.end

-- the relid of its channel
abbrev pub relid_at : Worker → ℕ
relid_at (Asks w) = w.relid
relid_at (Serves w) = w.responder.relid

-- its seat, if it serves
abbrev pub seat_at : Worker → Option DeviceSeat
seat_at (Asks w) = None
seat_at (Serves w) = Some w.responder.seat

-- how many requests it can have open, where it asks
abbrev pub HasWindow : ℕ → Worker → Type 0
HasWindow n (Asks w) = length w.table ≡ n
HasWindow n (Serves w) = Unit {0}

-- it has not ended
abbrev pub IsLive : Worker → Type 0
IsLive w = (line_at w).state.machine.marked ≡ false

-- it has the end of this side, and serves no device of the other side
pub record IsOfSide (side : Side) (w : Worker) : Type 0 where
  pub end : (end_at w).state.machine.side ≡ side
  pub seat : IsAt side (seat_at w)

-- how a turn ends, by what the worker does
abbrev pub Turned : Turn → Worker → Type 0
Turned turn (Asks w) = AskTurns (format_of w.protocol.kind) (besides_on w.protocol.kind) (asks_of w.protocol) turn w × AskEnds (format_of w.protocol.kind) (besides_on w.protocol.kind) w.starts (length w.table) (asks_of w.protocol) turn w.end.state.past
Turned turn (Serves w) = Turns left_at (format_of w.responder.protocol.kind) (besides_on w.responder.protocol.kind) turn w × ServeEnds (format_of w.responder.protocol.kind) (besides_on w.responder.protocol.kind) turn w

-- why it went so: what the worker did in it
abbrev pub Caused : Turn → Worker → Worker → Type 0
Caused turn (Asks v) (Asks w) = AskCause (λ (s : TableSeat). Some (told_in s.seat.me.0)) (λ (s : TableSeat). tells_nothing) turn v.end w.end
Caused turn (Asks v) (Serves w) = ⊥
Caused turn (Serves v) (Asks w) = ⊥
Caused turn (Serves v) (Serves w) = ServeCause (λ (s : TableSeat). Some (told_in s.seat.me.0)) (λ (s : TableSeat). tells_nothing) turn v.end w.end

-- what a turn of an end that was awake tried: where it rests, the packet that waits for room, in this turn; and where it ended after the other end's mark, the first
-- packet that it let go
abbrev pub Tried : Turn → Worker → Worker → Type 0
Tried turn (Asks v) (Asks w) =
    v.end.state.machine.asleep ≡ false → AskTried (λ (s : TableSeat). Some (told_in s.seat.me.0)) (λ (s : TableSeat). tells_nothing) (format_of w.protocol.kind) (asks_of w.protocol) turn v.end.end w
Tried turn (Asks v) (Serves w) = ⊥
Tried turn (Serves v) (Asks w) = ⊥
Tried turn (Serves v) (Serves w) =
    v.end.state.machine.asleep ≡ false → ServeTried (λ (s : TableSeat). Some (told_in s.seat.me.0)) (λ (s : TableSeat). tells_nothing) (format_of w.responder.protocol.kind) (besides_on w.responder.protocol.kind) turn v.end.end w

-- the same worker later
abbrev pub GoesOn : Worker → Worker → Type 0
GoesOn (Asks v) (Asks w) = AsksOn (λ (s : TableSeat). s.seat.table_id) (λ (s : TableSeat). Some (told_in s.seat.me.0)) v w
GoesOn (Asks v) (Serves w) = ⊥
GoesOn (Serves v) (Asks w) = ⊥
GoesOn (Serves v) (Serves w) = ServesOn (λ s t. device_place t ≡ device_place s) (λ (s : TableSeat). s.seat.table_id) (λ (s : TableSeat). Some (told_in s.seat.me.0)) v w
