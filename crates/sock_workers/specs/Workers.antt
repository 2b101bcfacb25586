-- The workers of a socket, as contracts see them.
use Rattle.std.specs.Prelude.{◌≡◌, ◌+◌, ◌*◌, ◌≤◌, ◌⊎◌, ◌&&◌, ◌++◌, ◌∷◌, ℕ, Bool, true, false, not, cond, List, [], length, take, drop, Option, Some, None}
use Rattle.channel_trace.specs.Runs.{has_marked, has_seen, is_drained}
use Rattle.channel_trace.specs.Laws.{Follows}
use Rattle.ring_machine.specs.declared.machine.Ending.TheVariants.{FellAsleep, FoundWork}
use Rattle.ring_core.specs.Seen.{Seen}
use Rattle.ring_seat.specs.declared.table_seat.TableSeat.{TableSeat}
use Rattle.ring_seat.specs.Settling.{IsSameEnd}
use Rattle.hv_sock.specs.Packets.{sock_packet}
use Rattle.hv_sock.specs.Streams.{is_closed, fault_in, stream_of}
use Rattle.sock_workers.specs.declared.ended.Ended.{Ended}
use Rattle.sock_workers.specs.declared.ended.Ended.TheVariants.{Marked, PeerMarked, Room, Fault}
use Rattle.sock_workers.specs.declared.ended.Turn.{Turn}
use Rattle.sock_workers.specs.declared.ended.Turn.TheVariants.{Moved, Idle, Ended as TurnEnded}
use Rattle.sock_workers.specs.Pieces.{echoed, ending, owed, packets_of}
use Rattle.sock_workers.specs.Ports.{ArmedOnce, FoundFull, FoundNone, Goes, Polls, Port, UsesUp}

-- both directions are at their ends
abbrev pub is_over : Seen TableSeat → Bool
is_over e = is_closed e.state.sent && is_closed e.state.got

-- It saw the other end's mark, and marked itself no earlier. Something is left that it didn't send, or it found nothing waiting once it had seen the mark
pub record FollowsPeer (e : Seen TableSeat) : Type 0 where
  pub over : is_over e ≡ false
  pub seen : has_seen e.state.past ≡ true
  pub follows : Follows e.state.past
  pub left : (is_closed e.state.sent ≡ false) ⊎ (is_drained e.state.past ≡ true)

-- a direction that isn't at its end took up the room that was made for so many packets
abbrev pub LacksRoom : ℕ → Seen TableSeat → Type 0
LacksRoom room e = ((is_closed e.state.sent ≡ false) × UsesUp room e.state.sent) ⊎ ((is_closed e.state.got ≡ false) × UsesUp room e.state.got)

-- how a worker that ended so leaves its end, which had room for so many packets each way
abbrev pub LeavesEnd : Ended → ℕ → Seen TableSeat → Type 0
LeavesEnd Marked room e = is_over e ≡ true
LeavesEnd PeerMarked room e = FollowsPeer e
LeavesEnd Room room e = LacksRoom room e
LeavesEnd (Fault f) room e = fault_in e.state.got ≡ Some f

-- a guest: its end, what it is to send, how many bytes of that it sent, and what it kept
pub record Guest : Type 0 where
  pub port : Port
  pub input : List ℕ
  pub at : ℕ
  pub output : List ℕ

-- the packets that are still to be sent
abbrev pub unsent : Guest → List (List ℕ)
unsent w = cond (is_closed w.port.end.state.sent) [] (packets_of (drop w.at w.input))

-- What it sent are the packets of its input, but for those that are still to be sent; and it kept the stream of what it got
pub record IsGuest (w : Guest) (shut ended : Bool) (capacity : ℕ) : Type 0 where
  pub sends : w.port.end.state.sent ++ unsent w ≡ packets_of w.input
  pub shut_is : shut ≡ is_closed w.port.end.state.sent
  pub ended_is : ended ≡ is_closed w.port.end.state.got
  pub keeps : w.output ≡ stream_of w.port.end.state.got
  pub within : w.at ≤ length w.input
  pub room : 2048 * w.port.room ≤ capacity

-- a host: its end, and the piece that it holds
pub record Host : Type 0 where
  pub port : Port
  pub held : Option (List ℕ)

abbrev pub is_none : {A : Type 0} → Option A → Bool
is_none None = true
is_none (Some a) = false

-- What it sent, with the piece that it holds, is what it got, piece by piece, and then the end of its direction, where it ended that: only once it had got
-- the end of the other one
pub record Echoes (held : Option (List ℕ)) (e : Seen TableSeat) : Type 0 where
  pub pieces : e.state.sent ++ owed held ≡ echoed e.state.got ++ ending (is_closed e.state.sent)
  pub behind : is_closed e.state.sent ≡ true → (is_closed e.state.got ≡ true) × (held ≡ None)

-- the bytes of a piece
abbrev pub IsPiece : Option ℕ → Type 0
IsPiece None = Unit {0}
IsPiece (Some n) = (1 ≤ n) × (n ≤ 2048)

pub record IsHost (w : Host) (held : Option ℕ) (shut ended : Bool) : Type 0 where
  pub echoes : Echoes w.held w.port.end
  pub shut_is : shut ≡ is_closed w.port.end.state.sent
  pub ended_is : ended ≡ is_closed w.port.end.state.got
  pub piece : IsPiece held

-- all that it got are a socket's packets
abbrev pub IsLive : Port → Type 0
IsLive p = fault_in p.end.state.got ≡ None

-- a turn leaves a worker that goes on, or sleeps; or ends it
abbrev pub Turns : Turn → Port → Type 0
Turns Moved p = IsLive p
Turns Idle p = IsLive p × (p.end.state.machine.asleep ≡ true)
Turns (TurnEnded how) p = (p.end.state.machine.asleep ≡ false) × LeavesEnd how p.room p.end

-- it looked for a packet, where it reads, and found none
abbrev pub Looks : Bool → Seen TableSeat → Seen TableSeat → Type 0
Looks true old new = FoundNone old new
Looks false old new = new ≡ old

-- it tried the packet that is to be sent next, where there is one, and found too little room in the ring
abbrev pub TriesNext : Option (List ℕ) → Seen TableSeat → Seen TableSeat → Type 0
TriesNext None old new = new ≡ old
TriesNext (Some p) old new = FoundFull p old new

-- it can't go on: nothing waits where it reads, and then nothing could be sent
pub record IsBlocked (reads : Bool) (next : Option (List ℕ)) (old new : Seen TableSeat) : Type 0 where
  pub between : Seen TableSeat
  pub looks : Looks reads old between
  pub tries : TriesNext next between new

-- the room in bytes that this packet needs, with its trailer
abbrev pub want_for : Option (List ℕ) → Option ℕ
want_for None = None
want_for (Some p) = Some (8 * length p + 8)

-- it couldn't go on, and armed for the room that it needs
pub record Armed (reads : Bool) (next : Option (List ℕ)) (asleep : Bool) (old new : Seen TableSeat) : Type 0 where
  pub before : Seen TableSeat
  pub blocked : IsBlocked reads next old before
  pub armed : ArmedOnce (want_for next) (cond asleep FellAsleep FoundWork) before new

-- it got one packet
abbrev pub HasGot : Seen TableSeat → Seen TableSeat → Type 0
HasGot old new = (p : List ℕ) × (new.state.got ≡ old.state.got ++ p ∷ [])

-- it sent the packet that is next
abbrev pub HasSent : Option (List ℕ) → Seen TableSeat → Seen TableSeat → Type 0
HasSent None old new = ⊥
HasSent (Some p) old new = new.state.sent ≡ old.state.sent ++ p ∷ []

-- Why a turn of an end that is awake went so. It moves where it got or sent a packet, or found work as it armed. Before it rests it couldn't go on, and before
-- it follows the other end's mark either
abbrev pub Causes : Turn → Bool → Option (List ℕ) → Seen TableSeat → Seen TableSeat → Type 0
Causes Moved reads next old new = HasGot old new ⊎ (HasSent next old new ⊎ Armed reads next false old new)
Causes Idle reads next old new = Armed reads next true old new
Causes (TurnEnded Marked) reads next old new = new ≡ old
Causes (TurnEnded PeerMarked) reads next old new = IsBlocked reads next old new
Causes (TurnEnded Room) reads next old new = Unit {0}
Causes (TurnEnded (Fault f)) reads next old new = HasGot old new

-- why a turn went so: an end that is asleep takes its signal
pub record TurnCause (turn : Turn) (reads : Bool) (next : Option (List ℕ)) (old new : Port) : Type 0 where
  pub asleep : old.end.state.machine.asleep ≡ true → Polls turn old new
  pub awake : old.end.state.machine.asleep ≡ false → Causes turn reads next old.end new.end

-- a guest reads until it read the end, and sends the next piece, or the end behind the last one
abbrev pub guest_reads : Guest → Bool
guest_reads w = not (is_closed w.port.end.state.got)

unfoldable pub packet_at : Guest → List ℕ
packet_at w = sock_packet (take 2048 (drop w.at w.input))

abbrev pub guest_next : Guest → Option (List ℕ)
guest_next w = cond (is_closed w.port.end.state.sent) None (Some (packet_at w))

-- a host reads until it read the end, but while it holds a piece; it sends the piece that it holds, and the end once it read the other one
abbrev pub host_reads : Host → Bool
host_reads w = is_none w.held && not (is_closed w.port.end.state.got)

abbrev pub back_next : Option (List ℕ) → Seen TableSeat → Option (List ℕ)
back_next (Some bytes) e = Some (sock_packet bytes)
back_next None e = cond (is_closed e.state.got && not (is_closed e.state.sent)) (Some (sock_packet [])) None

abbrev pub host_next : Host → Option (List ℕ)
host_next w = back_next w.held w.port.end

-- a later state of one and the same guest
pub record GuestGoes (old new : Guest) : Type 0 where
  pub port : Goes old.port new.port
  pub input : new.input ≡ old.input

-- what a take gives: none, where nothing waits, or where it doesn't read; a packet that is a socket's; or why the worker ends
abbrev pub TakesSo : Option Turn → Bool → Port → Port → Type 0
TakesSo None reads old new = Looks reads old.end new.end × (new.end.state.got ≡ old.end.state.got) × (reads ≡ true → new.seen ≡ true → is_drained new.end.state.past ≡ true)
TakesSo (Some Moved) reads old new = HasGot old.end new.end × IsLive new
TakesSo (Some Idle) reads old new = ⊥
TakesSo (Some (TurnEnded Marked)) reads old new = ⊥
TakesSo (Some (TurnEnded PeerMarked)) reads old new = ⊥
TakesSo (Some (TurnEnded Room)) reads old new = LacksRoom new.room new.end
TakesSo (Some (TurnEnded (Fault f))) reads old new = HasGot old.end new.end × (fault_in new.end.state.got ≡ Some f)

-- what a guest leaves of its end, and of what it kept
pub record GuestLeaves (w : Guest) (how : Ended) (output : List ℕ) (e : Seen TableSeat) : Type 0 where
  pub ended : LeavesEnd how w.port.room e
  pub unsent_are : List (List ℕ)
  pub sent : e.state.sent ++ unsent_are ≡ packets_of w.input
  pub all : is_closed e.state.sent ≡ true → unsent_are ≡ []
  pub output_is : output ≡ stream_of e.state.got
  pub same : IsSameEnd w.port.end e
  pub marked : has_marked e.state.past ≡ true

-- what a host leaves of its end, and the piece that it holds still
pub record HostLeaves (w : Host) (how : Ended) (e : Seen TableSeat) : Type 0 where
  pub ended : LeavesEnd how w.port.room e
  pub held : Option (List ℕ)
  pub echoes : Echoes held e
  pub same : IsSameEnd w.port.end e
  pub marked : has_marked e.state.past ≡ true

-- a worker that goes on, or that has ended so
abbrev pub Stands : Option Ended → Port → Type 0
Stands None p = IsLive p
Stands (Some how) p = (p.end.state.machine.asleep ≡ false) × LeavesEnd how p.room p.end
