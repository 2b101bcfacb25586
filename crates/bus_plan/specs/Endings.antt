-- How the lines of earlier phases ended devices.
use Rattle.std.specs.Prelude.{ℕ, ◌≡◌, ◌<◌, Bool, true, false, List, length, Option, Some, None, slice_index_or}
use Rattle.std.specs.List.{list_any}
use Rattle.script_lines.specs.declared.line.Line.{Line}
use Rattle.script_lines.specs.declared.line.What.{What}
use Rattle.script_lines.specs.Lines.{said, is_rescind, is_close}
use Rattle.script_phases.specs.Says.{heard_by}
use Rattle.bus_script.specs.declared.outcome.LineResult.{LineResult}
use Rattle.bus_script.specs.declared.outcome.LineResult.TheVariants.{Gone as LineGone, Closed as LineClosed}
use Rattle.bus_model.specs.Run.{ended_as}
use Rattle.bus_plan.specs.declared.ending.Ending.{Ending}
use Rattle.bus_plan.specs.declared.ending.Ending.TheVariants.{Rescinded, Closed}

-- the outcome that an ending leaves for the requests of later phases
abbrev pub outcome_left : Option Ending → Option LineResult
outcome_left None = None
outcome_left (Some Rescinded) = Some LineGone
outcome_left (Some Closed) = Some LineClosed

-- each device has ended as these lines leave it
abbrev pub AreEnded : List Line → List (Option Ending) → Type 0
AreEnded earlier ended = (k : ℕ) → k < length ended → outcome_left (slice_index_or ended k None) ≡ ended_as k earlier

-- what a line leaves that rescinds the device or closes it, or does neither: a rescind goes before a close
abbrev pub left_on : Bool → Bool → Option LineResult → Option LineResult
left_on true shut o = Some LineGone
left_on false shut (Some result) = Some result
left_on false true None = Some LineClosed
left_on false false None = None

-- one more line
pub record EndsOn (what : What) (old new : List (Option Ending)) : Type 0 where
  pub count : length new ≡ length old
  pub each : (k : ℕ) → k < length old
      → outcome_left (slice_index_or new k None) ≡ left_on (list_any is_rescind (heard_by k (said what))) (list_any is_close (heard_by k (said what))) (outcome_left (slice_index_or old k None))
