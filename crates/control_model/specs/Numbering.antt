-- How a phase's openings are numbered, one after the other.
use Rattle.std.specs.Prelude.{ℕ, ◌≡◌, ◌+◌, ◌<◌, ◌++◌, All, List, length, map, slice_index_or}
use Rattle.script_lines.specs.declared.line.Line.{Line}
use Rattle.script_lines.specs.declared.line.DeviceSpec.{DeviceSpec}
use Rattle.script_phases.specs.Openings.{Opening as PhaseOpening}
use Rattle.phase_plan.specs.declared.device_lines.DeviceLines.{DeviceLines}
use Rattle.phase_plan.specs.declared.opening.Opening.{Opening as Place}
use Rattle.phase_plan.specs.Told.{AreDealt}
use Rattle.phase_plan.specs.Opened.{plain}
use Rattle.control_model.specs.declared.planning.Fate.{Fate}
use Rattle.control_model.specs.declared.planning.Next.{Next}
use Rattle.control_model.specs.declared.opening.Opening.{Opening}
use Rattle.control_model.specs.Openings.{openings_from, lists_in, pages_in}

-- the channels of a phase of these lines, by what stands of each device at its place: what it is, the data pages of its rings, and what the lines say to it
pub record AreChannels (pages : ℕ → ℕ) (part : List Line) (specs : List DeviceSpec) (sizes : List ℕ) (devices : List DeviceLines) (cs : List PhaseOpening) (opened : List Place) : Type 0 where
  pub same : map plain cs ≡ opened
  pub specs_are : All (λ c. c.spec ≡ slice_index_or specs c.device c.spec) cs
  pub sizes_are : (device : ℕ) (n : ℕ) → device < length sizes → slice_index_or sizes device n ≡ pages device
  pub dealt : AreDealt part devices

-- these channels have their openings, behind others: each took the next handles and the next pages
pub record Numbered (pages : ℕ → ℕ) (fates : ℕ → Fate) (cs : List PhaseOpening) (before : List Opening) (next : Next) (os : List Opening) (later : Next) : Type 0 where
  pub openings : os ≡ before ++ openings_from pages fates next.gpadl next.page cs
  pub gpadl : later.gpadl ≡ next.gpadl + lists_in cs
  pub page : later.page ≡ next.page + pages_in pages cs
