-- An end of a socket as its worker uses it.
use Rattle.std.specs.Prelude.{◌≡◌, ℕ, ◌+◌, ◌*◌, ◌≤◌, ◌<◌, ◌⊎◌, Bool, true, false, List, [], ◌∷◌, ◌++◌, length, take, Option, Some, None, Result, Ok, Err}
use Rattle.channel_trace.specs.Runs.{has_marked, has_seen, is_drained}
use Rattle.channel_trace.specs.Laws.{Follows}
use Rattle.ring_machine.specs.declared.machine.Ending.{Ending}
use Rattle.ring_machine.specs.declared.machine.Ending.TheVariants.{Empty, Full, FellAsleep, FoundWork, NoSignal, Woke}
use Rattle.ring_machine.specs.declared.machine.Stage.TheVariants.{Idle as IdleStage}
use Rattle.ring_machine.specs.Endings.{want_of}
use Rattle.ring_machine.specs.declared.last.SendRefusal.{SendRefusal}
use Rattle.ring_machine.specs.declared.last.Signalled.{Signalled}
use Rattle.ring_machine.specs.Steps.{arm_begun, poll_begun, send_begun, take_begun}
use Rattle.ring_core.specs.declared.room.Room.{Room}
use Rattle.ring_core.specs.declared.told.Told.{Told}
use Rattle.ring_core.specs.Told.{tells_nothing, MakesSteps, Tale}
use Rattle.ring_core.specs.Seen.{Seen}
use Rattle.ring_seat.specs.declared.table_seat.TableSeat.{TableSeat}
use Rattle.ring_seat.specs.Seats.{told_in}
use Rattle.ring_seat.specs.Settling.{IsSameEnd}
use Rattle.hv_sock.specs.declared.got.Got.{Got}
use Rattle.hv_sock.specs.declared.got.Got.TheVariants.{Bytes as GotBytes, End as GotEnd}
use Rattle.hv_sock.specs.declared.sock_fault.SockFault.{SockFault}
use Rattle.hv_sock.specs.declared.sock_fault.SockFault.TheVariants.{Ended as SockEnded, Take as SockTake, Short, Kind, Size}
use Rattle.hv_sock.specs.Packets.{says, Data, Close, Fault}
use Rattle.sock_workers.specs.declared.ended.Ended.TheVariants.{PeerMarked}
use Rattle.sock_workers.specs.declared.ended.Turn.{Turn}
use Rattle.sock_workers.specs.declared.ended.Turn.TheVariants.{Moved, Idle, Ended as TurnEnded}
use Rattle.sock_workers.specs.declared.port.Found.{Found}
use Rattle.sock_workers.specs.declared.port.Found.TheVariants.{Bytes, End, Nothing, Fault as FoundFault, Room as FoundRoom}
use Rattle.sock_workers.specs.declared.port.Tried.{Tried}
use Rattle.sock_workers.specs.declared.port.Tried.TheVariants.{Sent, Full as TriedFull, Room as TriedRoom}

-- an end, the packets for which room was made each way, and whether an arm saw the other end's mark
pub record Port : Type 0 where
  pub end : Seen TableSeat
  pub room : ℕ
  pub seen : Bool

-- the words of these packets
abbrev pub words_in : List (List ℕ) → ℕ
words_in [] = 0
words_in (p ∷ ps) = length p + words_in ps

-- room was made for so many packets of 259 words, and so many words more, and these packets took theirs of it
pub record HasRoom (room more : ℕ) (spare : Room) (ps : List (List ℕ)) : Type 0 where
  pub packets : room ≤ spare.packets + length ps
  pub words : 259 * room + more ≤ spare.words + words_in ps

-- these packets leave no room for one more of 259 words, where room was made for so many
abbrev pub UsesUp : ℕ → List (List ℕ) → Type 0
UsesUp room ps = (room ≤ length ps) ⊎ (259 * room < words_in ps + 259)

-- between two calls the end is idle and unmarked
pub record IsPort (p : Port) : Type 0 where
  pub idle : p.end.state.machine.stage ≡ IdleStage
  pub unmarked : p.end.state.machine.marked ≡ false
  pub unset : has_marked p.end.state.past ≡ false
  pub seen_is : has_seen p.end.state.past ≡ p.seen
  pub size : 512 ≤ p.end.state.machine.cells
  pub sent_room : HasRoom p.room 0 p.end.spare_sent p.end.state.sent
  pub got_room : HasRoom p.room p.end.state.machine.cells p.end.spare_got p.end.state.got

-- a later state of one and the same port
pub record Goes (old new : Port) : Type 0 where
  pub same : IsSameEnd old.end new.end
  pub room : new.room ≡ old.room

abbrev pub told_at : TableSeat → Option Told
told_at s = Some (told_in s.seat.me.0)

abbrev pub tale_at : TableSeat → Tale
tale_at s = tells_nothing

-- a want is the need of a packet of 2 to 259 words
abbrev pub IsNeed : Option ℕ → Type 0
IsNeed None = Unit {0}
IsNeed (Some want) = (24 ≤ want) × (want ≤ 2080)

-- it looked once for a packet, and none waited
pub record FoundNone (old new : Seen TableSeat) : Type 0 where
  pub looked : MakesSteps told_at tale_at (take_begun old.state.machine) [] old new
  pub none : new.state.machine.ended ≡ Empty

-- it tried once to send this packet, for which the ring had too little room
pub record FoundFull (p : List ℕ) (old new : Seen TableSeat) : Type 0 where
  pub tried : MakesSteps told_at tale_at (send_begun old.state.machine (length p)) p old new
  pub full : new.state.machine.ended ≡ Full

-- it armed once, for this room in bytes, and its looks ended so
pub record ArmedOnce (want : Option ℕ) (how : Ending) (old new : Seen TableSeat) : Type 0 where
  pub armed : MakesSteps told_at tale_at (arm_begun old.state.machine (want_of want)) [] old new
  pub ended : new.state.machine.ended ≡ how

-- it exchanged its signal once, which ended so
pub record PolledOnce (how : Ending) (old new : Seen TableSeat) : Type 0 where
  pub polled : MakesSteps told_at tale_at (poll_begun old.state.machine) [] old new
  pub ended : new.state.machine.ended ≡ how

-- what a read found, and what became of a packet, by the answers of the end of the socket
abbrev pub found_of : Result Got SockFault → Found
found_of (Ok (GotBytes n)) = Bytes n
found_of (Ok GotEnd) = End
found_of (Err (SockTake r)) = Nothing
found_of (Err SockEnded) = FoundFault SockEnded
found_of (Err (Short have)) = FoundFault (Short have)
found_of (Err (Kind value)) = FoundFault (Kind value)
found_of (Err (Size value have)) = FoundFault (Size value have)

abbrev pub tried_of : Result Signalled SendRefusal → Tried
tried_of (Ok how) = Sent
tried_of (Err why) = TriedFull

-- what a read found: data in a packet that was taken, the end, a packet that is none of a socket's, or no packet; or there is no room for one
abbrev pub Finds : Found → Port → Port → List ℕ → Type 0
Finds (Bytes n) old new out = (p : List ℕ) × (new.end.state.got ≡ old.end.state.got ++ p ∷ []) × (says p ≡ Data (take n out)) × (1 ≤ n) × (n ≤ 2048)
Finds End old new out = (p : List ℕ) × (new.end.state.got ≡ old.end.state.got ++ p ∷ []) × (says p ≡ Close)
Finds (FoundFault f) old new out = (p : List ℕ) × (new.end.state.got ≡ old.end.state.got ++ p ∷ []) × (says p ≡ Fault f)
Finds Nothing old new out = (new.end.state.got ≡ old.end.state.got) × FoundNone old.end new.end × (new.seen ≡ true → is_drained new.end.state.past ≡ true)
Finds FoundRoom old new out = (new ≡ old) × UsesUp old.room old.end.state.got

-- what became of a packet: it was sent, or the ring had too little room for it; or the list of what was sent has none
abbrev pub Tries : Tried → List ℕ → Port → Port → Type 0
Tries Sent p old new = new.end.state.sent ≡ old.end.state.sent ++ p ∷ []
Tries TriedFull p old new = (new.end.state.sent ≡ old.end.state.sent) × FoundFull p old.end new.end
Tries TriedRoom p old new = (new ≡ old) × UsesUp old.room old.end.state.sent

abbrev pub has_gone : Tried → Bool
has_gone Sent = true
has_gone TriedFull = false
has_gone TriedRoom = false

-- a rest: once the other end's mark was seen the worker ends, and else it arms, for this room
abbrev pub Rests : Option ℕ → Turn → Port → Port → Type 0
Rests want Moved old new = ArmedOnce want FoundWork old.end new.end
Rests want Idle old new = ArmedOnce want FellAsleep old.end new.end × (new.end.state.machine.asleep ≡ true)
Rests want (TurnEnded how) old new = (how ≡ PeerMarked) × (new ≡ old) × (old.seen ≡ true) × (has_seen old.end.state.past ≡ true) × Follows old.end.state.past

-- a turn of an end that is asleep: it moves where the signal was up
abbrev pub Polls : Turn → Port → Port → Type 0
Polls Moved old new = PolledOnce Woke old.end new.end
Polls Idle old new = PolledOnce NoSignal old.end new.end × (new.end.state.machine.asleep ≡ true)
Polls (TurnEnded how) old new = ⊥
