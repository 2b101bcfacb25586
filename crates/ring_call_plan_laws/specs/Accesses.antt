-- The accesses that a caller makes, and the steps of an end.
use Rattle.std.specs.Prelude.{◌≡◌, ℕ, zero, suc, List, [], ◌∷◌, length, slice_index, Some}
use Rattle.ring_machine.specs.declared.state.EndState.{EndState}
use Rattle.ring_machine.specs.declared.place.Ring.{Ring}
use Rattle.ring_machine.specs.declared.place.Place.{Place}
use Rattle.ring_machine.specs.declared.place.Place.TheVariants.{Cell}
use Rattle.ring_machine.specs.declared.place.Op.{Op}
use Rattle.ring_machine.specs.declared.place.Op.TheVariants.{Load, Store}
use Rattle.ring_machine.specs.States.{afters}
use Rattle.ring_machine.specs.Steps.{next_of}
use Rattle.ring_call_plan.specs.Plans.{offset_in}

-- an access, and what it gave: nothing, which is 0, for a store or a raise
pub record Access : Type 0 where
  pub op : Op
  pub gave : ℕ

abbrev pub loaded : Place → ℕ → Access
loaded p v = record { op = Load p; gave = v }

abbrev pub made : Op → Access
made op = record { op = op; gave = 0 }

abbrev pub answers : List Access → List ℕ
answers [] = []
answers (a ∷ acts) = a.gave ∷ answers acts

-- These accesses, the last one first, are the steps of the end in order: at each of them the end, after what those before it gave, names just this one next
abbrev pub AreStepsFrom : EndState → List Access → Type 0
AreStepsFrom s [] = Unit {0}
AreStepsFrom s (a ∷ acts) = (next_of (afters s (answers acts)).machine (afters s (answers acts)).packet ≡ Some a.op) × AreStepsFrom s acts

-- after the accesses `before`, the first k words of a packet are stored to two runs of cells: `first` cells from byte `at` on, and then from the ring's beginning on
abbrev pub stores_after : List Access → Ring → ℕ → ℕ → List ℕ → ℕ → List Access
stores_after before r at first p zero = before
stores_after before r at first p (suc k) = made (Store (Cell r (offset_in at first k)) (slice_index p k)) ∷ stores_after before r at first p k

-- after the accesses `before`, these words are loaded from two such runs, the last word first
abbrev pub loads_after : List Access → Ring → ℕ → ℕ → List ℕ → List Access
loads_after before r at first [] = before
loads_after before r at first (v ∷ vs) = loaded (Cell r (offset_in at first (length vs))) v ∷ loads_after before r at first vs
