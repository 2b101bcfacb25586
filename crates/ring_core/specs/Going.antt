-- What a driver keeps from step to step.
use Rattle.std.specs.Prelude.{◌≡◌, ◌≢◌, ℕ, ◌+◌, ◌≤◌, true, false, List, length, take, Option, Some, None}
use Rattle.ring_machine.specs.declared.machine.EndMachine.{EndMachine}
use Rattle.ring_machine.specs.declared.machine.Stage.TheVariants.{Stopped}
use Rattle.ring_machine.specs.declared.state.EndState.{EndState}
use Rattle.ring_machine.specs.EndCalls.{Take}
use Rattle.ring_machine.specs.Steps.{is_busy_at, call_at, made_at}
use Rattle.ring_machine.specs.States.{kept_at, copied_at, afters, entered, Continues}
use Rattle.ring_machine.specs.Moves.{Lists, Moves, Form, is_formed, pages_at}
use Rattle.ring_core.specs.Told.{HeardJust, Memory, pair, run, raises_of, wakes_of, told_by, AreSteps, Tale}
use Rattle.ring_core.specs.declared.told.Told.{Told}

-- the steps that are told at s are those that were told at u, and one for each answer
pub record Counts (base : EndState) (values : List ℕ) (u s : Told) : Type 0 where
  pub steps : s.steps ≡ u.steps + length values
  pub raised : s.raised ≡ u.raised + raises_of base values
  pub woke : s.woke ≡ u.woke + wakes_of base values

-- steps of a call were made, from its first one on
pub record Going (base : EndState) (told told' : Option Told) (tale tale' : Tale) (m : EndMachine) (p buf : List ℕ) : Type 0 where
  pub values : List ℕ
  pub state : EndState
  pub is_after : state ≡ afters base values
  pub each : AreSteps base values
  pub few : length values ≤ made_at m.stage m
  pub machine : state.machine ≡ m
  pub packet : state.packet ≡ kept_at m.stage p
  pub copied : state.copied ≡ copied_at m.stage (take m.done buf)
  pub wide : length buf ≡ m.cells
  pub pages : state.pages ≡ pages_at m.stage m base.pages p buf
  pub lists : Lists (call_at base.machine.stage) base.sent base.got base.past p m buf state.sent state.got state.past
  pub moves : Moves base.machine m
  pub form : is_formed m.stage m.ended ≡ true → Form m.len buf
  pub silent : told ≡ None → told' ≡ None
  pub tells : (u : Told) → told ≡ Some u → is_busy_at m.stage ≡ true → (s : Told) × (told' ≡ Some s) × Continues s.state m p × (entered s.state m p ≡ state) × Counts base values u s
  pub ends : (u : Told) → told ≡ Some u → is_busy_at m.stage ≡ false → (told' ≡ Some (told_by base values state u)) × (m.stage ≢ Stopped)
  pub runs : (k : Memory) → tale.memory ≡ Some k → (k' : Memory) × (tale'.memory ≡ Some k') × (run (length values) (pair base k) ≡ pair state k')
  pub hears : HeardJust tale tale' values

-- steps of a call were made, so that the seat may make the next one
pub record MayGo {S : Type 0} (told : S → Option Told) (tale : S → Tale) (seat : S) (m : EndMachine) (packet buf : List ℕ) : Type 0 where
  pub base : EndState
  pub told_then : Option Told
  pub tale_then : Tale
  pub going : Going base told_then (told seat) tale_then (tale seat) m packet buf

-- more steps were made, from wherever the call began; no step but a take's writes into the buffer
pub record Goes {S : Type 0} (cells_of : S → ℕ) (told : S → Option Told) (tale : S → Tale) (IsLater : S → S → Type 0) (seat seat' : S) (m m' : EndMachine) (packet buf buf' : List ℕ) : Type 0 where
  pub going : (base : EndState) (t : Option Told) (k : Tale) → Going base t (told seat) k (tale seat) m packet buf
      → Going base t (told seat') k (tale seat') m' packet buf' × ((call_at base.machine.stage ≡ Take → ⊥) → buf' ≡ buf)
  pub same : IsLater seat seat'
  pub cells : cells_of seat' ≡ cells_of seat
  pub size : m'.cells ≡ m.cells
