-- What the calls of an end answer, by the machine that they leave.
use Rattle.std.specs.Prelude.{◌≡◌, ℕ, ◌+◌, ◌*◌, ◌/◌, ◌%◌, ◌<◌, ◌≤◌, cond, Bool, true, false, Option, Some, None, Result, Ok, Err}
use Rattle.ring_machine.specs.declared.machine.Stage.{Stage}
use Rattle.ring_machine.specs.declared.machine.Stage.TheVariants.{Idle, Stopped, PollMask, PollPending}
use Rattle.ring_machine.specs.declared.last.Mode.{Mode}
use Rattle.ring_machine.specs.declared.last.Mode.TheVariants.{Awake, Asleep as ModeAsleep, Marked as ModeMarked, Stopped as ModeStopped}
use Rattle.ring_machine.specs.declared.last.Indices.{Indices}
use Rattle.ring_machine.specs.declared.machine.Ending.{Ending}
use Rattle.ring_machine.specs.declared.machine.Ending.TheVariants.{Fresh, SentQuiet, SentRaised, Full, BadPeer, Took, Empty, BadIndex, BadLength, BadOffset, CommittedQuiet, CommittedRaised, FellAsleep, FoundWork, NoSignal, Woke, Marked, PeerMarkDown, PeerMarkUp}
use Rattle.ring_machine.specs.declared.machine.EndMachine.{EndMachine}
use Rattle.ring_machine.specs.declared.last.Signalled.{Signalled}
use Rattle.ring_machine.specs.declared.last.Signalled.TheVariants.{Raised, Quiet}
use Rattle.ring_machine.specs.declared.last.Armed.{Armed as ArmedIs}
use Rattle.ring_machine.specs.declared.last.Armed.TheVariants.{Asleep as ArmedAsleep, Work}
use Rattle.ring_machine.specs.declared.last.Bad.{Bad}
use Rattle.ring_machine.specs.declared.last.Bad.TheVariants.{Index, Length, Offset}
use Rattle.ring_machine.specs.declared.last.Why.{Why}
use Rattle.ring_machine.specs.declared.last.Why.TheVariants.{BadPeer as WhyBadPeer, Malformed}
use Rattle.ring_machine.specs.declared.last.Last.{Last}
use Rattle.ring_machine.specs.declared.last.Last.TheVariants.{Fresh as LastFresh, Sent, Full as LastFull, Took as LastTook, Empty as LastEmpty, Broke, Committed, Armed, Polled, Marked as LastMarked, PeerMark}
use Rattle.ring_machine.specs.declared.last.SendRefusal.{SendRefusal}
use Rattle.ring_machine.specs.declared.last.SendRefusal.TheVariants.{Full as SendFull, BadPeer as SendBadPeer}
use Rattle.ring_machine.specs.declared.last.TakeRefusal.{TakeRefusal}
use Rattle.ring_machine.specs.declared.last.TakeRefusal.TheVariants.{Empty as TakeEmpty, Malformed as TakeMalformed}
use Rattle.ring_machine.specs.EndCalls.{EndCall, Send, Take, Commit, Arm, Poll, Mark as MarkCall}
use Rattle.ring_machine.specs.Places.{used, ahead}
use Rattle.ring_machine.specs.Steps.{is_sent, is_took, is_broken}

-- what is wrong with the packet that the machine stopped at, or with the index
abbrev pub bad_by : Ending → EndMachine → Bad
bad_by BadIndex m = Index m.value
bad_by BadLength m = Length (m.value / 65536) (8 * used m.cells m.read m.seen)
bad_by _ m = Offset (m.value % 65536) (m.value / 65536)

abbrev pub why_by : Ending → EndMachine → Why
why_by BadPeer m = WhyBadPeer m.value
why_by how m = Malformed (bad_by how m)

-- the free bytes that the last send found which had too little room, and the bytes that its packet needs with the trailer
abbrev pub free_bytes : EndMachine → ℕ
free_bytes m = 8 * m.room

abbrev pub need_bytes : EndMachine → ℕ
need_bytes m = 8 * m.words + 8

abbrev pub last_by : Ending → EndMachine → Last
last_by Fresh m = LastFresh
last_by SentQuiet m = Sent Quiet
last_by SentRaised m = Sent Raised
last_by Full m = LastFull (free_bytes m) (need_bytes m)
last_by BadPeer m = Broke (why_by BadPeer m)
last_by Took m = LastTook m.words
last_by Empty m = LastEmpty (8 * m.read)
last_by BadIndex m = Broke (why_by BadIndex m)
last_by BadLength m = Broke (why_by BadLength m)
last_by BadOffset m = Broke (why_by BadOffset m)
last_by CommittedQuiet m = Committed Quiet
last_by CommittedRaised m = Committed Raised
last_by FellAsleep m = Armed ArmedAsleep
last_by FoundWork m = Armed Work
last_by NoSignal m = Polled false
last_by Woke m = Polled true
last_by Marked m = LastMarked
last_by PeerMarkDown m = PeerMark false
last_by PeerMarkUp m = PeerMark true

-- how the last call ended, with its numbers in bytes, also while a later one is under way
abbrev pub last_of : EndMachine → Last
last_of m = last_by m.ended m

-- why the machine stopped
abbrev pub why_of : EndMachine → Why
why_of m = why_by m.ended m

-- whether an end can make calls: an end that wakes counts as asleep until its poll is over
abbrev pub mode_by : Stage → EndMachine → Mode
mode_by Stopped m = ModeStopped (why_of m)
mode_by PollMask m = ModeAsleep
mode_by PollPending m = ModeAsleep
mode_by _ m = cond m.marked ModeMarked (cond m.asleep ModeAsleep Awake)

abbrev pub mode_of : EndMachine → Mode
mode_of m = mode_by m.stage m

-- the private indices in bytes
abbrev pub indices_of : EndMachine → Indices
indices_of m = record { write = 8 * m.write; read = 8 * m.read; start = 8 * m.start }

-- the room in bytes that an arm waits for, or 0
abbrev pub want_of : Option ℕ → ℕ
want_of None = 0
want_of (Some want) = want

-- a want is the need of a packet that fits into a ring of n cells
abbrev pub IsWant : ℕ → Option ℕ → Type 0
IsWant n None = Unit {0}
IsWant n (Some want) = (24 ≤ want) × (want < 8 * n)

abbrev pub is_committed : Ending → Bool
is_committed CommittedQuiet = true
is_committed CommittedRaised = true
is_committed _ = false

-- an end sleeps on after a call that ended so
abbrev pub is_dozed : Ending → Bool
is_dozed FellAsleep = true
is_dozed NoSignal = true
is_dozed _ = false

abbrev pub is_marked : Ending → Bool
is_marked Marked = true
is_marked _ = false

-- What a call leaves: the write index moves where it sent a packet, the read index where it took one, the committed one where it committed.
-- The end is asleep exactly where it fell asleep or found no signal, marked exactly where it marked itself, and stopped exactly where it refused
pub record Leaves (before after : EndMachine) : Type 0 where
  pub cells : after.cells ≡ before.cells
  pub side : after.side ≡ before.side
  pub write : after.write ≡ cond (is_sent after.ended) (ahead before.cells before.write (after.len + 1)) before.write
  pub read : after.read ≡ cond (is_took after.ended) (ahead before.cells before.read (after.len + 1)) before.read
  pub start : after.start ≡ cond (is_committed after.ended) before.read before.start
  pub asleep : after.asleep ≡ is_dozed after.ended
  pub marked : after.marked ≡ is_marked after.ended
  pub stage : after.stage ≡ cond (is_broken after.ended) Stopped Idle

-- what the calls answer, by how they ended
abbrev pub send_answer : Ending → EndMachine → Result Signalled SendRefusal
send_answer SentQuiet m = Ok Quiet
send_answer SentRaised m = Ok Raised
send_answer Full m = Err (SendFull (free_bytes m) (need_bytes m))
send_answer _ m = Err (SendBadPeer m.value)

abbrev pub take_refusal : Ending → EndMachine → TakeRefusal
take_refusal Empty m = TakeEmpty (8 * m.read)
take_refusal how m = TakeMalformed (bad_by how m)

-- the refusal, where there is one
abbrev pub refused : {T E : Type 0} → Result T E → Option E
refused (Ok _) = None
refused (Err e) = Some e

abbrev pub commit_answer : Ending → Signalled
commit_answer CommittedRaised = Raised
commit_answer _ = Quiet

abbrev pub peer_mark_answer : Ending → Bool
peer_mark_answer PeerMarkUp = true
peer_mark_answer _ = false

-- a send that finds an honest peer is sent, or refused for want of room
abbrev pub is_honest_send : Result Signalled SendRefusal → Bool
is_honest_send (Ok _) = true
is_honest_send (Err (SendFull _ _)) = true
is_honest_send (Err _) = false

-- a take that finds an honest peer gives a packet, or is refused because there is none
abbrev pub is_empty_refusal : TakeRefusal → Bool
is_empty_refusal (TakeEmpty _) = true
is_empty_refusal _ = false

-- What each call leaves
pub record LeavesBy (call : EndCall) (before after : EndMachine) : Type 0 where
  pub awake : (call ≡ Arm → ⊥) → (call ≡ Poll → ⊥) → after.asleep ≡ false
  pub unmarked : (call ≡ MarkCall → ⊥) → after.marked ≡ false
  pub marked : call ≡ MarkCall → after.marked ≡ true
  pub idle : (call ≡ Send → ⊥) → (call ≡ Take → ⊥) → after.stage ≡ Idle
  pub write : (call ≡ Send → ⊥) → after.write ≡ before.write
  pub read : (call ≡ Take → ⊥) → after.read ≡ before.read
  pub start : (call ≡ Commit → ⊥) → after.start ≡ before.start
  pub committed : call ≡ Commit → after.start ≡ after.read
  pub untaken : (call ≡ Take → ⊥) → is_took after.ended ≡ false
  pub whole : after.stage ≡ Idle → is_broken after.ended ≡ false

-- the answer of an arm, as a flag
abbrev pub is_asleep : ArmedIs → Bool
is_asleep ArmedAsleep = true
is_asleep Work = false
