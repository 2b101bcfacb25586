-- The rule of a channel's table: what is told of each end stands in one view, and words and ends belong together. And what each step tells.
use Rattle.std.specs.Prelude.{◌≡◌, ◌≢◌, ◌+◌, ◌≤◌, ℕ, Bool, true, false, List, [], Option, Some, None, slice_index}
use mathlib.Core.Option.{some}
use lib.ListN.{get_elem?}
use Rattle.atomic_table.specs.Table.{State, Me, Step}
use Rattle.io_edge.specs.declared.side.Side.{Side}
use Rattle.io_edge.specs.declared.side.Side.TheVariants.{Guest, Host}
use Rattle.page_kept.specs.declared.page_call.PageCall.{PageCall}
use Rattle.page_kept.specs.declared.page_call.PageCall.TheVariants.{Off, StoreWord, LoadWords}
use Rattle.page_kept.specs.declared.due.Due.{Due}
use Rattle.page_kept.specs.declared.due.Due.TheVariants.{Loads}
use Rattle.ring_machine.specs.declared.machine.EndMachine.{EndMachine}
use Rattle.ring_machine.specs.declared.machine.Stage.TheVariants.{Stopped}
use Rattle.ring_machine.specs.declared.state.EndState.{EndState}
use Rattle.ring_machine.specs.declared.place.Op.{Op}
use Rattle.ring_machine.specs.declared.place.Op.TheVariants.{Load, Store, Raise, TakeSignal, StoreMark}
use Rattle.ring_machine.specs.Places.{index_of, signal_of, mark_of, peer_of}
use Rattle.ring_machine.specs.PageCalls.{next_in}
use Rattle.ring_machine.specs.Steps.{machine_new, fed, is_busy_at}
use Rattle.ring_machine.specs.States.{resting}
use Rattle.ring_core.specs.declared.told.Told.{Told}
use Rattle.ring_core.specs.Told.{told_step}
use Rattle.ring_seat.specs.declared.view.View.{View}
use Rattle.ring_seat.specs.declared.view.View.TheVariants.{Both, One, Spent}
use Rattle.ring_seat.specs.Lawful.{Lawfully}
use Rattle.ring_seat.specs.PageRule.{ring_words}
use Rattle.ring_seat.specs.Whole.{WholeRule, new_paged}

-- a new end of a channel whose rings have n cells
abbrev pub new_end : ℕ → Side → EndState
new_end n x = resting (machine_new x n) [] [] []

-- what is told of a new end of a channel of c data pages: it made no step yet
abbrev pub new_told : ℕ → ℕ → Side → Told
new_told n c x = record { state = new_paged n c x; steps = 0; raised = 0; woke = 0 }

-- the view of a seat is what is told of the ends that have it
abbrev pub Knows : (Side → Told) → (Side → ℕ) → ℕ → View → Type 0
Knows ends seat id (Both g h) = (g ≡ ends Guest) × (h ≡ ends Host) × (id ≡ seat Guest) × (id ≡ seat Host)
Knows ends seat id (One u) = (u ≡ ends u.state.machine.side) × (id ≡ seat u.state.machine.side)
Knows ends seat id Spent = Unit {0}

-- Each signal that the end x took, and the one that is up, its peer raised: u is told of x, and p of its peer
abbrev pub SignalsRaised : ℕ → List ℕ → Side → Told → Told → Type 0
SignalsRaised n ws x u p = u.woke + slice_index ws (signal_of n x) ≤ p.raised

abbrev pub states : (Side → Told) → Side → EndState
states ends x = (ends x).state

-- A page call that is under way between two steps is a load, of what is still due: a store is one step
abbrev pub IsLoading : PageCall → Due → Type 0
IsLoading Off d = Unit {0}
IsLoading (StoreWord q w v) d = ⊥
IsLoading (LoadWords q n j) d = d ≡ Loads q n j

-- The rule of the table of a channel whose rings have n cells, and which has c data pages: words and ends belong together, each view tells of the ends that
-- its seat has, each load of page words that is under way loads what is due, and no end took more signals than its peer raised
pub record Holds (n c : ℕ) (s : State (Unit {0}) View) : Type 0 where
  pub ends : Side → Told
  pub seat : Side → ℕ
  pub seats : (id : ℕ) (v : View) → get_elem? s.views id ≡ some v → Knows ends seat id v
  pub channel : WholeRule n c s.words (states ends)
  pub counts : (x : Side) → (ends x).state.pages.count ≡ c
  pub loads : c ≢ 0 → (x : Side) → IsLoading (ends x).state.pages.call (ends x).state.pages.due
  pub signals : (x : Side) → SignalsRaised n (ring_words n s.words) x (ends x) (ends (peer_of x))

abbrev pub blank : Told
blank = new_told 0 0 Guest

abbrev pub told_in : View → Told
told_in (Both g h) = blank
told_in (One u) = u
told_in Spent = blank

abbrev pub state_in : View → EndState
state_in v = (told_in v).state

abbrev pub is_one : View → Bool
is_one (Both g h) = false
is_one (One u) = true
is_one Spent = false

-- a look of one end is a step too
abbrev pub looked : View → View
looked (Both g h) = Both g h
looked (One u) = One (record u { steps = u.steps + 1 })
looked Spent = Spent

-- the word of a step, and the value that it stores there: 0 where it stores none
abbrev pub word_at : ℕ → Op → ℕ
word_at n (Load p) = index_of n p
word_at n (Store p v) = index_of n p
word_at n (Raise x) = signal_of n x
word_at n (TakeSignal x) = signal_of n x
word_at n (StoreMark x) = mark_of n x

abbrev pub stored_by : Op → ℕ
stored_by (Load p) = 0
stored_by (Store p v) = v
stored_by (Raise x) = 1
stored_by (TakeSignal x) = 0
stored_by (StoreMark x) = 1

-- the step that was made is the one that the machine names
abbrev pub IsOp : ℕ → Option Op → Step (Unit {0}) → Type 0
IsOp n None s = ⊥
IsOp n (Some op) s = (s.word ≡ word_at n op) × (s.first ≡ stored_by op)

-- An end that makes a step: what was told of it before, and its machine, page call and packet
pub record Making : Type 0 where
  pub told : Told
  pub machine : EndMachine
  pub call : PageCall
  pub packet : List ℕ

abbrev pub IsNamed : Making → Step (Unit {0}) → Type 0
IsNamed k s = IsOp k.machine.cells (next_in k.machine k.call k.packet) s

abbrev pub made : Making → ℕ → Told
made k v = told_step (is_busy_at k.machine.stage) k.told k.machine k.call k.packet v

-- what a step tells: the end is in the state that the answer leaves, it has made one step more, it goes on, and the rule of the pages tells of it alone
abbrev pub Tells : Making → ℕ → Me (Unit {0}) View → Type 0
Tells k v me = (me ≡ (One (made k v), [])) × ((fed k.machine v).stage ≢ Stopped) × Lawfully (made k v).state

-- no end, for a step that nobody makes
abbrev pub nobody : Making
nobody = record { told = blank; machine = machine_new Guest 0; call = Off; packet = [] }

abbrev pub guest_in : View → View
guest_in (Both g h) = One g
guest_in v = v

abbrev pub host_in : View → View
host_in (Both g h) = One h
host_in v = v

abbrev pub joined : View → View → View
joined v w = Both (told_in v) (told_in w)
