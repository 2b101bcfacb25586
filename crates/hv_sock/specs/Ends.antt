-- An end of a socket, and what its calls make of the end of the channel that it stands over.
use Rattle.std.specs.Prelude.{◌≡◌, ℕ, ◌≤◌, Bool, true, false, List, [], ◌∷◌, ◌++◌, length, Option, Some, None, Result, Err}
use Rattle.ring_core.specs.Seen.{Seen, Kept, SentRoom}
use Rattle.ring_core.specs.Taking.{Takes}
use Rattle.ring_core.specs.Told.{MakesSteps, Tale}
use Rattle.ring_core.specs.declared.told.Told.{Told}
use Rattle.ring_machine.specs.declared.last.SendRefusal.{SendRefusal}
use Rattle.ring_machine.specs.declared.last.SendRefusal.TheVariants.{Stopped as StoppedSend}
use Rattle.ring_machine.specs.declared.last.Signalled.{Signalled}
use Rattle.ring_machine.specs.declared.last.TakeRefusal.{TakeRefusal}
use Rattle.ring_machine.specs.declared.machine.Stage.TheVariants.{Idle, Stopped}
use Rattle.ring_machine.specs.EndCalls.{Send, Commit}
use Rattle.ring_machine.specs.Endings.{Leaves, LeavesBy, is_honest_send, send_answer, why_of}
use Rattle.ring_machine.specs.States.{IsPacket, past_of, sent_by}
use Rattle.ring_machine.specs.Steps.{call_by, commit_begun, is_busy_at, send_begun}
use Rattle.hv_sock.specs.declared.got.Got.{Got}
use Rattle.hv_sock.specs.declared.sock_fault.SockFault.{SockFault}
use Rattle.hv_sock.specs.declared.sock_fault.SockFault.TheVariants.{Take}
use Rattle.hv_sock.specs.Packets.{says, answer_of, left_in}
use Rattle.hv_sock.specs.Streams.{is_closed, fault_in}

-- The end of a socket stands over this end of a channel: what it keeps beside it is read off the two lists. It sent nothing else than data and the end, no call
-- is under way, the cells of all that was taken are given back, and the channel has no data pages
pub record IsSock {S : Type 0} (e : Seen S) (shut ended : Bool) (fault : Option SockFault) : Type 0 where
  pub shut_is : shut ≡ is_closed e.state.sent
  pub ended_is : ended ≡ is_closed e.state.got
  pub fault_is : fault ≡ fault_in e.state.got
  pub whole : fault_in e.state.sent ≡ None
  pub rests : is_busy_at e.state.machine.stage ≡ false
  pub committed : e.state.machine.start ≡ e.state.machine.read
  pub size : 512 ≤ e.state.machine.cells
  pub bare : e.state.pages.count ≡ 0

-- a send of this packet by an end that isn't stopped
pub record SendsIdle (S : Type 0) (told : S → Option Told) (tale : S → Tale) (p : List ℕ) (old new : Seen S) (result : Result Signalled SendRefusal) : Type 0 where
  pub ran : MakesSteps told tale (send_begun old.state.machine (length p)) p old new
  pub answer : result ≡ send_answer new.state.machine.ended new.state.machine
  pub call : call_by new.state.machine.ended ≡ Send
  pub leaves : Leaves old.state.machine new.state.machine
  pub after : LeavesBy Send old.state.machine new.state.machine
  pub len : new.state.machine.len ≡ length p
  pub sent : new.state.sent ≡ sent_by new.state.machine old.state.sent p
  pub past : new.state.past ≡ past_of new.state.machine.ended new.state.machine.saw p old.state.past
  pub pages : new.state.pages ≡ old.state.pages

-- What a send of this packet leaves: a stopped end refuses, and nothing is changed. Where the seat tells the end's state, the packet goes or finds no room
pub record Sends (S : Type 0) (told : S → Option Told) (tale : S → Tale) (same : S → S → Type 0) (p : List ℕ) (old new : Seen S) (result : Result Signalled SendRefusal) : Type 0 where
  pub idle : old.state.machine.stage ≡ Idle → SendsIdle S told tale p old new result
  pub stopped : old.state.machine.stage ≡ Stopped → (result ≡ Err (StoppedSend (why_of old.state.machine))) × (new ≡ old)
  pub honest : (u : Told) → told old.seat ≡ Some u → (old.state.machine.stage ≡ Idle) × (new.state.machine.stage ≡ Idle) × (is_honest_send result ≡ true)
  pub same_seat : same old.seat new.seat
  pub cells : new.state.machine.cells ≡ old.state.machine.cells
  pub side : new.state.machine.side ≡ old.state.machine.side
  pub kept : (new.state.got ≡ old.state.got) × (new.spare_got ≡ old.spare_got)
  pub awake : (new.state.machine.asleep ≡ false) × (new.state.machine.marked ≡ false)
  pub room : SentRoom new.state.machine.ended (length p) old.spare_sent new.spare_sent

-- a commit
pub record Commits (S : Type 0) (told : S → Option Told) (tale : S → Tale) (same : S → S → Type 0) (old new : Seen S) : Type 0 where
  pub ran : MakesSteps told tale (commit_begun old.state.machine) [] old new
  pub call : call_by new.state.machine.ended ≡ Commit
  pub leaves : Leaves old.state.machine new.state.machine
  pub after : LeavesBy Commit old.state.machine new.state.machine
  pub past : new.state.past ≡ past_of new.state.machine.ended new.state.machine.saw [] old.state.past
  pub same_seat : same old.seat new.seat
  pub kept : Kept old new

-- A take, and a commit behind it where it gave a packet, and no other step: the end between the two, and how the take was refused
pub record TakesAway (S : Type 0) (told : S → Option Told) (tale : S → Tale) (same : S → S → Type 0) (old new : Seen S) (refusal : Option TakeRefusal) : Type 0 where
  pub between : Seen S
  pub takes : Takes S told tale same old between refusal
  pub refused : (r : TakeRefusal) → refusal ≡ Some r → (new ≡ between) × (new.state.got ≡ old.state.got) × (new.spare_got ≡ old.spare_got)
  pub commits : refusal ≡ None → Commits S told tale same between new

-- the packet that a read got decides what it answers, and what it leaves of the buffer
pub record GotPacket {S : Type 0} (old new : Seen S) (result : Result Got SockFault) (out out' : List ℕ) : Type 0 where
  pub packet : List ℕ
  pub is_packet : IsPacket packet
  pub got : new.state.got ≡ old.state.got ++ packet ∷ []
  pub answer : result ≡ answer_of (says packet)
  pub out_is : out' ≡ left_in (says packet) out

-- a read of a stream that can go on: it is refused where the take is, and else gives what the packet says
pub record Reads (S : Type 0) (told : S → Option Told) (tale : S → Tale) (same : S → S → Type 0) (old new : Seen S) (result : Result Got SockFault) (out out' : List ℕ) : Type 0 where
  pub refusal : Option TakeRefusal
  pub takes : TakesAway S told tale same old new refusal
  pub refused : (r : TakeRefusal) → refusal ≡ Some r → (result ≡ Err (Take r)) × (out' ≡ out)
  pub read : refusal ≡ None → GotPacket old new result out out'
