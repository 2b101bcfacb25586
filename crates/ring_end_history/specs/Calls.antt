-- What an end did between two moments: whole calls of its machine, and what their steps answered.
use Rattle.std.specs.Prelude.{◌≡◌, ℕ, false, List, [], ◌∷◌, ◌++◌, length}
use Rattle.page_kept.specs.declared.due.Due.TheVariants.{Loads}
use Rattle.page_kept.specs.declared.page_call.PageCall.TheVariants.{LoadWords}
use Rattle.ring_machine.specs.declared.machine.EndMachine.{EndMachine}
use Rattle.ring_machine.specs.declared.machine.Stage.TheVariants.{Idle}
use Rattle.ring_machine.specs.declared.state.EndState.{EndState}
use Rattle.ring_machine.specs.PageCalls.{with_pages}
use Rattle.ring_machine.specs.States.{afters, entered}
use Rattle.ring_machine.specs.Steps.{arm_begun, commit_begun, is_busy_at, mark_begun, peer_mark_begun, poll_begun, send_begun, take_begun}
use Rattle.ring_core.specs.Laying.{stored_all}
use Rattle.ring_core.specs.PageRuns.{page_afters}
use Rattle.ring_core.specs.Seen.{Seen}
use Rattle.ring_core.specs.Told.{AreSteps, HeardJust, Tale}

-- a call of the rings: a send of this packet, a take, a commit, an arm that wants this room in bytes, or none where it is 0, a poll of the signal, a mark, and a
-- look for the peer's mark
pub data RingCall : Type 0 where
  SendCall : List ℕ → RingCall
  TakeCall : RingCall
  CommitCall : RingCall
  ArmCall : ℕ → RingCall
  PollCall : RingCall
  MarkCall : RingCall
  PeerMarkCall : RingCall

-- the machine that has begun it, and the packet that it sends
abbrev pub begun : RingCall → EndMachine → EndMachine
begun (SendCall p) m = send_begun m (length p)
begun TakeCall m = take_begun m
begun CommitCall m = commit_begun m
begun (ArmCall want) m = arm_begun m want
begun PollCall m = poll_begun m
begun MarkCall m = mark_begun m
begun PeerMarkCall m = peer_mark_begun m

abbrev pub packet_in : RingCall → List ℕ
packet_in (SendCall p) = p
packet_in _ = []

-- A whole call of an end, with what its steps answered, the last one first: a call of the rings, a load of so many words of a page, and stores of words into a
-- page, from its first word on
pub data WholeCall : Type 0 where
  RingSteps : RingCall → List ℕ → WholeCall
  PageLoads : ℕ → ℕ → List ℕ → WholeCall
  PageStores : ℕ → List ℕ → List ℕ → WholeCall

abbrev pub answers : WholeCall → List ℕ
answers (RingSteps c vs) = vs
answers (PageLoads q n vs) = vs
answers (PageStores q words vs) = vs

-- what the steps of these calls answered, the last one first
abbrev pub answers_in : List WholeCall → List ℕ
answers_in [] = []
answers_in (c ∷ cs) = answers c ++ answers_in cs

-- A call that an end began at the state s, idle, made its steps and was over at the state t: that is the machine's state on what the steps answered, one answer
-- a step
abbrev pub Leads : WholeCall → EndState → EndState → Type 0
Leads (RingSteps c vs) s t =
    (s.machine.stage ≡ Idle) × AreSteps (entered s (begun c s.machine) (packet_in c)) vs × (t ≡ afters (entered s (begun c s.machine) (packet_in c)) vs) × (is_busy_at t.machine.stage ≡ false)
Leads (PageLoads q n vs) s t = (s.machine.stage ≡ Idle) × (s.pages.due ≡ Loads q n 0) × (length vs ≡ n) × (t ≡ page_afters s (LoadWords q n 0) vs)
Leads (PageStores q words vs) s t = (s.machine.stage ≡ Idle) × (length vs ≡ length words) × (t ≡ with_pages s (stored_all s.pages q 0 words))

-- these calls, the last one first, led from the state s to the state t
abbrev pub CallsLead : List WholeCall → EndState → EndState → Type 0
CallsLead [] s t = t ≡ s
CallsLead (c ∷ cs) s t = (u : EndState) × CallsLead cs s u × Leads c u t

-- An end came from one moment to a later one by whole calls alone: all that it did to the channel's words are their steps, and where its seat tells what it
-- heard, that are just what these steps answered
pub record Came {S : Type 0} (tale : S → Tale) (old new : Seen S) : Type 0 where
  pub calls : List WholeCall
  pub leads : CallsLead calls old.state new.state
  pub hears : HeardJust (tale old.seat) (tale new.seat) (answers_in calls)
