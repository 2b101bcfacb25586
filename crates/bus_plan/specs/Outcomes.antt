-- The outcomes of the lines of a phase.
use Rattle.std.specs.Prelude.{ℕ, ◌≡◌, ◌+◌, ◌<◌, List, [], ◌++◌, length, map, Option, Some, None, is_some, true, slice_index_or, slice_set}
use Rattle.std.specs.Option.{IfSome}
use Rattle.std.specs.List.{flat_map}
use Rattle.script_lines.specs.declared.line.Line.{Line}
use Rattle.script_lines.specs.declared.line.What.{What}
use Rattle.script_lines.specs.Lines.{said}
use Rattle.script_phases.specs.Says.{heard_by, asked, asks_of}
use Rattle.script_phases.specs.Openings.{Phase}
use Rattle.bus_script.specs.declared.outcome.LineResult.{LineResult}
use Rattle.bus_model.specs.Run.{Carried, nth_of, told_by}
use Rattle.bus_plan.specs.declared.ending.Ending.{Ending}

-- these are the outcomes of the channels of each device, of so many devices
abbrev pub AreTold : Phase → List Carried → ℕ → List (List (List LineResult)) → Type 0
AreTold p channels count outcomes = (k : ℕ) → k < count → slice_index_or outcomes k [] ≡ told_by p channels k

-- these are left of them behind so many lines: of each device that no earlier phase ended, those of its later requests
abbrev pub AreLeft : Phase → List Carried → List (Option Ending) → List Line → List (List (List LineResult)) → Type 0
AreLeft p channels ended before outcomes =
    (k : ℕ) → k < length ended → slice_index_or ended k None ≡ None → (n : ℕ) → nth_of (slice_index_or outcomes k []) n ≡ nth_of (told_by p channels k) (length (asks_of k before) + n)

-- the outcome of a device's next request is taken, and those of its later requests are left
pub record TakesTurn (old : List (List LineResult)) (taken : LineResult) (new : List (List LineResult)) : Type 0 where
  pub first : nth_of old 0 ≡ Some taken
  pub later : (n : ℕ) → nth_of new n ≡ nth_of old (n + 1)

-- of a device of which this is known, or else its next outcome is taken: those of the other devices stay
abbrev pub TakesOne : Option LineResult → ℕ → List (List (List LineResult)) → LineResult → List (List (List LineResult)) → Type 0
TakesOne (Some known) device old result new = (result ≡ known) × (new ≡ old)
TakesOne None device old result new = (after : List (List LineResult)) × (new ≡ slice_set old device after) × TakesTurn (slice_index_or old device []) result after

-- one more line: of each device that no earlier phase ended as many outcomes are gone as the line asks of it
pub record MovesOn (what : What) (ended : List (Option Ending)) (old new : List (List (List LineResult))) : Type 0 where
  pub count : length new ≡ length old
  pub each : (k : ℕ) → k < length old → slice_index_or ended k None ≡ None → (n : ℕ) → nth_of (slice_index_or new k []) n ≡ nth_of (slice_index_or old k []) (length (flat_map asked (heard_by k (said what))) + n)

-- each request of a device that is still served has an outcome
abbrev pub HasOutcomes : List Line → List (Option Ending) → List (List (List LineResult)) → Type 0
HasOutcomes part ended outcomes = (k : ℕ) → k < length ended → slice_index_or ended k None ≡ None → (n : ℕ) → n < length (asks_of k part) → is_some (nth_of (slice_index_or outcomes k []) n) ≡ true

-- so the request of a line, if it is one
abbrev pub HasNext : List (Option Ending) → List (List (List LineResult)) → What → Type 0
HasNext ended outcomes what = IfSome (said what) (λ s. (asked s.1 ≡ [] → ⊥) → slice_index_or ended s.0 None ≡ None → is_some (nth_of (slice_index_or outcomes s.0 []) 0) ≡ true)

-- these outcomes stand behind the old ones
pub record Tells (outcomes : List (Option LineResult)) (old new : List LineResult) : Type 0 where
  pub told : List LineResult
  pub more : new ≡ old ++ told
  pub each : map (λ r. Some r) told ≡ outcomes
