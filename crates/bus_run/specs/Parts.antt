-- When the channels of a phase are open.
use Rattle.std.specs.Prelude.{ℕ, ◌≡◌, true, List, Some}
use Rattle.contact.specs.declared.part.Part.TheVariants.{PhaseStart}
use Rattle.script_lines.specs.declared.line.Line.{Line}
use Rattle.control_model.specs.Openings.{plan_of}
use Rattle.control_model.specs.Guest.{guest_done}
use Rattle.control_model.specs.Host.{host_done}
use Rattle.control_path.specs.declared.path.ControlPath.{ControlPath}
use Rattle.control_path.specs.Path.{Rests}

-- The channels of this phase of the script are open, and no message that closes one has been said: both controls are those of the script, they are done with the
-- start of just this phase, and rest
pub record AreOpen (lines : List Line) (phase : ℕ) (path : ControlPath) : Type 0 where
  pub rests : Rests path
  pub guest_plan : path.guest.plan ≡ plan_of lines
  pub host_plan : path.host.plan ≡ plan_of lines
  pub guest_part : path.guest.part ≡ Some (PhaseStart phase)
  pub host_part : path.host.part ≡ Some (PhaseStart phase)
  pub guest_done : guest_done path.guest ≡ true
  pub host_done : host_done path.host ≡ true
