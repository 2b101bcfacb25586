-- What a call of an end says of itself over a memory that nobody else changes, and what it leaves of both ends of the channel.
use Rattle.std.specs.Prelude.{◌≡◌, ℕ, ◌+◌, ◌≤◌, false, List, [], ◌∷◌, ◌++◌, length, None, Result, IfOk, MatchResult}
use Rattle.io_edge.specs.declared.side.Side.{Side}
use Rattle.ring_machine.specs.declared.last.Signalled.{Signalled}
use Rattle.ring_machine.specs.declared.last.SendRefusal.{SendRefusal}
use Rattle.ring_machine.specs.declared.last.TakeRefusal.{TakeRefusal}
use Rattle.ring_machine.specs.declared.machine.Stage.TheVariants.{Idle}
use Rattle.ring_machine.specs.EndCalls.{Send, Commit}
use Rattle.ring_machine.specs.Places.{peer_of}
use Rattle.ring_machine.specs.Steps.{call_by, send_begun, commit_begun}
use Rattle.ring_machine.specs.States.{IsPacket, sent_by}
use Rattle.ring_machine.specs.Endings.{Leaves, LeavesBy, send_answer, commit_answer, refused}
use Rattle.ring_core.specs.Told.{Held, tells_memory}
use Rattle.ring_core.specs.Seen.{Seen, Kept, SentRoom}
use Rattle.ring_core.specs.Taking.{Takes}
use Rattle.ring_pair_laws.specs.Pair.{TwoEnds, IsPair, MakesOwnSteps, Stays, SendKeeps, TakeKeeps, end_of, memory_of, cells_of}
use Rattle.ring_pair_laws.specs.Results.{SendMeets, TakeRefused, waiting_for}
use Rattle.ring_pair_laws.specs.Signals.{send_raises, commit_raises, signalled, words_committed}

-- what a send of the packet q says: its steps on the end's memory, its answer, and what it leaves of the end. These are clauses of the end's own call
pub record SendSays (old new : Seen Held) (q : List ℕ) (result : Result Signalled SendRefusal) : Type 0 where
  pub ran : old.state.machine.stage ≡ Idle → MakesOwnSteps (send_begun old.state.machine (length q)) q old new
  pub answer : old.state.machine.stage ≡ Idle → (result ≡ send_answer new.state.machine.ended new.state.machine) × (call_by new.state.machine.ended ≡ Send)
  pub leaves : old.state.machine.stage ≡ Idle → Leaves old.state.machine new.state.machine
  pub after : old.state.machine.stage ≡ Idle → LeavesBy Send old.state.machine new.state.machine
  pub sent : old.state.machine.stage ≡ Idle → new.state.sent ≡ sent_by new.state.machine old.state.sent q
  pub awake : (new.state.machine.asleep ≡ false) × (new.state.machine.marked ≡ false)
  pub kept : (new.state.got ≡ old.state.got) × (new.spare_got ≡ old.spare_got)
  pub room : SentRoom new.state.machine.ended (length q) old.spare_sent new.spare_sent

-- what a commit says
pub record CommitSays (old new : Seen Held) (answer : Signalled) : Type 0 where
  pub ran : MakesOwnSteps (commit_begun old.state.machine) [] old new
  pub answer_is : answer ≡ commit_answer new.state.machine.ended
  pub leaves : Leaves old.state.machine new.state.machine
  pub after : LeavesBy Commit old.state.machine new.state.machine
  pub kept : Kept old new

-- what a take says, with the words that it lends
pub record TakeSays (old new : Seen Held) (result : Result (List ℕ) TakeRefusal) : Type 0 where
  pub takes : Takes Held (λ _. None) (λ (k : Held). tells_memory k.memory) (λ _ _. Unit {0}) old new (refused result)
  pub lends : IfOk result (λ w. IsPacket w × (length w ≡ new.state.machine.len) × (new.state.got ≡ old.state.got ++ w ∷ []))

-- the end of this side is awake, and said no mark
abbrev pub IsAwakeAt : TwoEnds → Side → Type 0
IsAwakeAt s x = ((end_of s x).state.machine.asleep ≡ false) × ((end_of s x).state.machine.marked ≡ false)

-- A send of the packet q by the side x, from the pair s to the pair t. It is Full exactly where the ring has no more room than the packet needs with its
-- trailer, and changes nothing then; no other refusal comes. It raises exactly where the peer's mask is 0 and it had given back all that was sent before
pub record AfterSend (s t : TwoEnds) (x : Side) (q : List ℕ) (result : Result Signalled SendRefusal) : Type 0 where
  pub pair : IsPair t
  pub sent : SendMeets result q (end_of s x).state (end_of t x).state (end_of s (peer_of x)).state
  pub raises : IfOk result (λ r. r ≡ signalled (send_raises (cells_of s) (memory_of s).words x (end_of s x).state.machine.write))
  pub indices : SendKeeps (end_of s x) (end_of t x)
  pub got : ((end_of t x).state.got ≡ (end_of s x).state.got) × ((end_of t x).spare_got ≡ (end_of s x).spare_got)
  pub awake : IsAwakeAt t x
  pub room : ((end_of s x).spare_sent.packets ≤ (end_of t x).spare_sent.packets + 1) × ((end_of s x).spare_sent.words ≤ (end_of t x).spare_sent.words + length q)
  pub other : Stays (end_of s (peer_of x)) (end_of t (peer_of x))

-- A commit by the side x, from the pair s to the pair t. It raises exactly where feature's bit 0 is set, pending isn't 0, and the free bytes were at most
-- pending before and are more than that now. It stores the read word, and the signal where it raised it, and no other word
pub record AfterCommit (s t : TwoEnds) (x : Side) (answer : Signalled) : Type 0 where
  pub pair : IsPair t
  pub raises : answer ≡ signalled (commit_raises (cells_of s) (memory_of s).words x (end_of s x).state.machine.start (end_of s x).state.machine.read)
  pub words : (memory_of t).words ≡ words_committed (cells_of s) (memory_of s).words x (end_of s x).state.machine.read (commit_raises (cells_of s) (memory_of s).words x (end_of s x).state.machine.start (end_of s x).state.machine.read)
  pub committed : (end_of t x).state.machine.start ≡ (end_of s x).state.machine.read
  pub kept : Kept (end_of s x) (end_of t x)
  pub awake : IsAwakeAt t x
  pub other : Stays (end_of s (peer_of x)) (end_of t (peer_of x))

-- A take by the side x, from the pair s to the pair t. It gives the first packet that waits, and is Empty exactly where none waits, and changes nothing
-- then; no other refusal comes
pub record AfterTake (s t : TwoEnds) (x : Side) (result : Result (List ℕ) TakeRefusal) : Type 0 where
  pub pair : IsPair t
  pub keeps : TakeKeeps (end_of s x) (end_of t x)
  pub takes : MatchResult result
      (λ w. IsPacket w × (length w ≡ (end_of t x).state.machine.len) × (waiting_for (end_of s x).state (end_of s (peer_of x)).state ≡ w ∷ waiting_for (end_of t x).state (end_of t (peer_of x)).state) × ((end_of t x).state.got ≡ (end_of s x).state.got ++ w ∷ []))
      (λ r. TakeRefused r (end_of s x).state (end_of t x).state (end_of s (peer_of x)).state)
  pub other : Stays (end_of s (peer_of x)) (end_of t (peer_of x))
