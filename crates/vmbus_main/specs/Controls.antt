-- What the controls of a guest and its host come to.
use Rattle.std.specs.Prelude.{◌≡◌, ℕ, List, Option, Some, None}
use Rattle.script_lines.specs.declared.line.Line.{Line}
use Rattle.control_model.specs.Openings.{plan_of}
use Rattle.control_model.specs.Sock.{sock_plan}
use Rattle.control_laws.specs.Over.{IsOver}
use Rattle.sock_path.specs.Done.{AreDone}
use Rattle.vmbus_main.specs.declared.outcome.Controls.{Controls}

-- Both controls were made from the script, and are done with the farewell. They have one version, the greatest that both know; each said all that it has
-- to say for the script, and was fed what the other said; at both a channel that was rescinded is given back, each other one that was opened is closed, and each
-- one that wasn't is offered
pub record AreControls (lines : List Line) (controls : Controls) : Type 0 where
  pub guest_plan : controls.guest.plan ≡ plan_of lines
  pub host_plan : controls.host.plan ≡ plan_of lines
  pub over : IsOver (plan_of lines) controls.guest controls.host

-- there are controls, and they are those of the script
abbrev pub HasControls : List Line → Option Controls → Type 0
HasControls lines None = ⊥
HasControls lines (Some controls) = AreControls lines controls

-- there are controls, and they are those of the socket of a port, in the same way
abbrev pub HasSockControls : ℕ → Option Controls → Type 0
HasSockControls port None = ⊥
HasSockControls port (Some controls) = AreDone (sock_plan port) controls.guest controls.host
