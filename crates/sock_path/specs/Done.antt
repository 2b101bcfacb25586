-- What both controls come to.
use Rattle.std.specs.Prelude.{◌≡◌}
use Rattle.control_model.specs.Plan.{BusPlan}
use Rattle.control_model.specs.Guest.{GuestSeen}
use Rattle.control_model.specs.Host.{HostSeen}
use Rattle.control_laws.specs.Over.{IsOver}

-- Both controls were made by the plan, and are done with the farewell: each said all that it has to say for it, and was fed what the other said
pub record AreDone (plan : BusPlan) (guest : GuestSeen) (host : HostSeen) : Type 0 where
  pub guest_plan : guest.plan ≡ plan
  pub host_plan : host.plan ≡ plan
  pub over : IsOver plan guest host
