-- The value at which a call stops its end.
use Rattle.std.specs.Prelude.{◌≡◌, ℕ, List, ◌∷◌, ◌++◌}
use Rattle.ring_machine.specs.declared.last.Why.{Why}
use Rattle.ring_machine.specs.declared.state.EndState.{EndState}
use Rattle.ring_machine.specs.States.{afters}
use Rattle.ring_machine.specs.Causes.{Breaks}

-- One of these answers to the steps of a call that began at the state s, the last one first, breaks the rule that is named
pub record BreaksIn (s : EndState) (values : List ℕ) (why : Why) : Type 0 where
  pub later : List ℕ
  pub value : ℕ
  pub before : List ℕ
  pub is : values ≡ later ++ value ∷ before
  pub breaks : Breaks why (afters s before).machine value
