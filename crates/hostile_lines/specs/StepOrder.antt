-- Changes in the order of their steps.
use Rattle.std.specs.Prelude.{◌≡◌, ℕ, ◌==◌, List, filter}
use Rattle.std.specs.List.Sorted.{IsNonDecreasingBy}
use Rattle.ring_core.specs.declared.told_mem.Change.{Change}

-- the changes of this step
abbrev pub at_step : ℕ → List Change → List Change
at_step k changes = filter (λ c. c.step == k) changes

-- the steps don't fall, and the changes of one step stand as they were said: there is just one such list
pub record IsInStepOrder (said sorted : List Change) : Type 0 where
  pub rising : IsNonDecreasingBy (λ c. c.step) sorted
  pub each : (k : ℕ) → at_step k sorted ≡ at_step k said
