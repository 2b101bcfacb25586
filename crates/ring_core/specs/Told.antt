-- What a seat tells: of its end, of its memory, whose words, steps made and changes still due count, and of what its steps answered. And a call of an end there.
use Rattle.std.specs.Prelude.{◌≡◌, ◌≢◌, ◌≤◌, Bool, true, false, ℕ, zero, suc, ◌+◌, ◌%◌, ◌^◌, cond, leb, List, [], ◌∷◌, length, replicate, slice_index, slice_set, ◌*◌, ◌++◌, Option, Some, None, ◌==◌}
use Rattle.channel_trace.specs.declared.event.Event.{Event}
use Rattle.page_kept.specs.declared.kept.Kept.{Kept}
use Rattle.page_kept.specs.declared.page_call.PageCall.{PageCall}
use Rattle.ring_machine.specs.PageCalls.{ContinuesPage, after_page, paged}
use Rattle.ring_core.specs.Seen.{Seen}
use Rattle.ring_core.specs.declared.told.Told.{Told}
use Rattle.ring_core.specs.declared.told_mem.Change.{Change}
use Rattle.ring_machine.specs.declared.place.Op.{Op}
use Rattle.ring_machine.specs.declared.place.Op.TheVariants.{Load, Store, Raise, TakeSignal, StoreMark}
use Rattle.ring_machine.specs.declared.machine.EndMachine.{EndMachine}
use Rattle.ring_machine.specs.declared.machine.Stage.{Stage}
use Rattle.ring_machine.specs.declared.machine.Stage.TheVariants.{Stopped, SendRaise, CommitRaise, PollSignal, MarkRaise}
use Rattle.ring_machine.specs.declared.state.EndState.{EndState}
use Rattle.ring_machine.specs.declared.place.Ring.{Ring}
use Rattle.ring_machine.specs.declared.place.Ring.TheVariants.{ToHost, ToGuest}
use Rattle.ring_machine.specs.declared.place.Place.TheVariants.{Mask, Feature}
use Rattle.ring_machine.specs.Places.{index_of, signal_of, mark_of, words_of, IsPlaceOf}
use Rattle.ring_machine.specs.Steps.{next_of, made_at, is_busy_at}
use Rattle.ring_machine.specs.States.{after, afters, entered, resting_with, Continues}

pub record Memory : Type 0 where
  pub words : List ℕ
  pub steps : ℕ
  pub due : List Change

-- what a seat tells of its channel's words, each where it does: the memory, and what its own steps answered so far, the last one first
pub record Tale : Type 0 where
  pub memory : Option Memory
  pub heard : Option (List ℕ)

-- a seat that tells its memory, one that tells what it heard, and one that tells nothing
abbrev pub tells_memory : Memory → Tale
tells_memory m = record { memory = Some m; heard = None }

abbrev pub tells_heard : List ℕ → Tale
tells_heard vs = record { memory = None; heard = Some vs }

abbrev pub tells_nothing : Tale
tells_nothing = record { memory = None; heard = None }

-- what a seat heard in between are just these answers, the last one first
abbrev pub HeardJust : Tale → Tale → List ℕ → Type 0
HeardJust tale tale' values = (vs : List ℕ) → tale.heard ≡ Some vs → tale'.heard ≡ Some (values ++ vs)

-- the words once the changes due up to this step are made
abbrev pub changed : ℕ → ℕ → List Change → List ℕ → List ℕ
changed d n [] ws = ws
changed d n (c ∷ cs) ws = cond (leb c.step n) (changed d n cs (slice_set ws (index_of d c.place) c.value)) ws

-- the changes that come later
abbrev pub later : ℕ → List Change → List Change
later n [] = []
later n (c ∷ cs) = cond (leb c.step n) (later n cs) (c ∷ cs)

abbrev pub counted : ℕ → ℕ
counted n = (n + 1) % 2 ^ 64

-- the words that the next step finds
abbrev pub found : ℕ → Memory → List ℕ
found d m = changed d (counted m.steps) m.due m.words

-- what a step makes of the words
abbrev pub written : ℕ → Op → List ℕ → List ℕ
written d (Load p) ws = ws
written d (Store p v) ws = slice_set ws (index_of d p) v
written d (Raise x) ws = slice_set ws (signal_of d x) 1
written d (TakeSignal x) ws = slice_set ws (signal_of d x) 0
written d (StoreMark x) ws = slice_set ws (mark_of d x) 1

-- what it answers: the loaded or exchanged value, or 0 for a store
abbrev pub answer_in : ℕ → Op → List ℕ → ℕ
answer_in d (Load p) ws = slice_index ws (index_of d p)
answer_in d (Store p v) ws = 0
answer_in d (Raise x) ws = 0
answer_in d (TakeSignal x) ws = slice_index ws (signal_of d x)
answer_in d (StoreMark x) ws = 0

-- a step makes the changes due before it, then its own, and counts one
abbrev pub memory_after : ℕ → Op → Memory → Memory
memory_after d op m = record { words = written d op (found d m); steps = counted m.steps; due = later (counted m.steps) m.due }

abbrev pub answer_of : ℕ → Op → Memory → ℕ
answer_of d op m = answer_in d op (found d m)

-- an end and its memory
pub record Pair : Type 0 where
  pub state : EndState
  pub memory : Memory

abbrev pub step_by : Option Op → Pair → Pair
step_by None x = x
step_by (Some op) x = record { state = after x.state (answer_of x.state.machine.cells op x.memory); memory = memory_after x.state.machine.cells op x.memory }

-- one step of the machine on its memory; none where no call is under way
abbrev pub step : Pair → Pair
step x = step_by (next_of x.state.machine x.state.packet) x

abbrev pub run : ℕ → Pair → Pair
run zero x = x
run (suc n) x = step (run n x)

abbrev pub pair : EndState → Memory → Pair
pair s m = record { state = s; memory = m }

-- a step that raises the peer's signal, and one that answered v and so found the end's own signal up and took it
abbrev pub raises_at : Stage → ℕ
raises_at SendRaise = 1
raises_at CommitRaise = 1
raises_at MarkRaise = 1
raises_at _ = 0

abbrev pub wakes_at : Stage → ℕ → ℕ
wakes_at PollSignal v = cond (v == 0) 0 1
wakes_at _ v = 0

-- what is told where the machine m goes on, or begins a call, with the packet p: no step is made by that
abbrev pub told_at : Told → EndMachine → List ℕ → Told
told_at u m p = record { state = entered u.state m p; steps = u.steps; raised = u.raised; woke = u.woke }

-- and after one step that answered v
abbrev pub told_next : Told → ℕ → Told
told_next u v = record { state = after u.state v; steps = u.steps + 1; raised = u.raised + raises_at u.state.machine.stage; woke = u.woke + wakes_at u.state.machine.stage v }

-- after one step of a page call c that goes on, or begins, there
abbrev pub told_page : Told → PageCall → ℕ → Told
told_page u c v = record { state = after_page (paged u.state c) v; steps = u.steps + 1; raised = u.raised; woke = u.woke }

-- A step of an end whose machine is m and whose page call is c: of the call of the rings where one is under way, and else of the page call. What it asks of the
-- end's state, and what is told after it
abbrev pub GoesOn : Bool → EndState → EndMachine → PageCall → List ℕ → Type 0
GoesOn true s m c p = Continues s m p
GoesOn false s m c p = ContinuesPage s c

abbrev pub told_step : Bool → Told → EndMachine → PageCall → List ℕ → ℕ → Told
told_step true u m c p v = told_next (told_at u m p) v
told_step false u m c p v = told_page u c v

-- the raises and the wakes among the steps that gave these answers, the last one first, from the state s
abbrev pub raises_of : EndState → List ℕ → ℕ
raises_of s [] = 0
raises_of s (v ∷ vs) = raises_of s vs + raises_at (afters s vs).machine.stage

abbrev pub wakes_of : EndState → List ℕ → ℕ
wakes_of s [] = 0
wakes_of s (v ∷ vs) = wakes_of s vs + wakes_at (afters s vs).machine.stage v

-- what is told at the end t of a call that began at the state s, where u was told before: each answer is one step
abbrev pub told_by : EndState → List ℕ → EndState → Told → Told
told_by s values t u = record { state = t; steps = u.steps + length values; raised = u.raised + raises_of s values; woke = u.woke + wakes_of s values }

-- each of these answers was given to a call that was under way
abbrev pub AreSteps : EndState → List ℕ → Type 0
AreSteps s [] = Unit {0}
AreSteps s (v ∷ vs) = (is_busy_at (afters s vs).machine.stage ≡ true) × AreSteps s vs

-- A call that began at the state s ended at the state t: t is the machine's state on what its steps answered, one answer a step, at most as many as the
-- call's row has. Where the seat tells its memory, the call is the machine's run on it. Where it tells its end's state, that is t, the end isn't
-- stopped, and the seat counts as many steps as there are answers. Where it tells what it heard, that are just these answers
pub record Ran (s t : EndState) (told told' : Option Told) (tale tale' : Tale) : Type 0 where
  pub values : List ℕ
  pub state : t ≡ afters s values
  pub each : AreSteps s values
  pub few : length values ≤ made_at t.machine.stage t.machine
  pub silent : told ≡ None → told' ≡ None
  pub tells : (u : Told) → told ≡ Some u → (told' ≡ Some (told_by s values t u)) × (t.machine.stage ≢ Stopped)
  pub runs : (m : Memory) → tale.memory ≡ Some m → (m' : Memory) × (tale'.memory ≡ Some m') × (run (length values) (pair s m) ≡ pair t m')
  pub hears : HeardJust tale tale' values

-- the call that this machine has begun, with this packet, made its steps: from what a contract saw of the end before it to what it sees after it
abbrev pub MakesSteps : {S : Type 0} → (S → Option Told) → (S → Tale) → EndMachine → List ℕ → Seen S → Seen S → Type 0
MakesSteps told tale begun packet old new = Ran (entered old.state begun packet) new.state (told old.seat) (told new.seat) (tale old.seat) (tale new.seat)

-- what a call leaves, where its lists and its pages are as they should be
pub record Left (base : EndState) (told told' : Option Told) (tale tale' : Tale) (m : EndMachine) (sent got : List (List ℕ)) (past : List (Event (List ℕ))) (k : Kept) : Type 0 where
  pub ran : Ran base (resting_with m sent got past k) told told' tale tale'
  pub told_is : (u : Told) → told' ≡ Some u → u.state ≡ resting_with m sent got past k

-- what a contract sees of a memory: the cells of each of its rings, its data pages, and its words
pub record Held : Type 0 where
  pub cells : ℕ
  pub pages : ℕ
  pub memory : Memory

abbrev pub opened : ℕ → Ring → List ℕ → List ℕ
opened n r ws = slice_set (slice_set ws (index_of n (Mask r)) 1) (index_of n (Feature r)) 1

-- the words of a new channel without data pages, whose words are 0 and come behind: all are 0, but that mask and feature are 1 in both rings
abbrev pub opening : ℕ → List ℕ
opening n = opened n ToHost (opened n ToGuest (replicate (words_of n) 0))

-- the words of a new channel of c data pages
abbrev pub opening_with : ℕ → ℕ → List ℕ
opening_with n c = opening n ++ replicate (512 * c) 0

abbrev pub IsNotAfter : ℕ → List Change → Type 0
IsNotAfter k [] = Unit {0}
IsNotAfter k (c ∷ cs) = k ≤ c.step

-- a list of changes to a channel of c data pages: their steps don't fall, and their places are in the channel
abbrev pub IsScript : ℕ → ℕ → List Change → Type 0
IsScript n c [] = Unit {0}
IsScript n c (x ∷ xs) = IsPlaceOf n c x.place × IsNotAfter x.step xs × IsScript n c xs
