-- A script between two of its phases.
use Rattle.std.specs.Prelude.{◌≡◌, ℕ, List, length, nat_lt, Some, if◌then◌else◌}
use Rattle.contact.specs.declared.part.Part.{Part}
use Rattle.contact.specs.declared.part.Part.TheVariants.{PhaseStart, Unload}
use Rattle.script_lines.specs.declared.line.Line.{Line}
use Rattle.bus_run.specs.declared.runner.Runner.{Runner}
use Rattle.bus_run.specs.Whole.{RunsSoFar}
use Rattle.control_model.specs.Plan.{BusPlan, part_after}
use Rattle.control_model.specs.Openings.{plan_of}
use Rattle.control_path.specs.declared.path.ControlPath.{ControlPath}
use Rattle.control_path.specs.Path.{Rests, IsSamePath}

-- what the controls do once so many phases have run: the next phase starts, or it is the farewell
abbrev pub part_at : BusPlan → ℕ → Part
part_at plan phase = if nat_lt phase (length plan.phases) then PhaseStart phase else Unload

-- the first phases ran between the parts of this path, and both controls are at rest before the next part
pub record IsBetween (lines : List Line) (runner : Runner) (path : ControlPath) : Type 0 where
  pub ran : RunsSoFar lines runner
  pub rests : Rests path
  pub same : IsSamePath runner.path.value path
  pub plan : path.guest.plan ≡ plan_of lines
  pub next : part_after (plan_of lines) path.guest.part ≡ Some (part_at (plan_of lines) runner.phase)
