-- A host's control as one side of the control path.
use Rattle.std.specs.Prelude.{◌≡◌, true, Some}
use Rattle.contact.specs.declared.part.Part.{Part}
use Rattle.control_model.specs.Plan.{part_after, IsPlan}
use Rattle.control_model.specs.Messages.{farewell, farewell_taken}
use Rattle.control_model.specs.Said.{said_by_guest, said_by_host}
use Rattle.control_model.specs.Host.{HostSeen, host_can_begin, host_done}
use Rattle.control_model.specs.HostAt.{HostAt}
use Rattle.control_side.specs.Sides.{Side}

-- It says and hears what both say over its plan. UNLOAD, which no guest ever takes, ends what it says early, and UNLOAD_RESPONSE, which no host ever takes, what
-- it hears
abbrev pub host_side : HostSeen → Side
host_side h = record {
  plan = h.plan;
  part = h.part;
  says = said_by_host h.plan;
  parting = farewell;
  hears = said_by_guest h.plan;
  cut = farewell_taken;
  posted = h.posted;
  fed = h.fed;
  done = host_done h;
}

-- it goes by a plan, and stands where all that it was fed brings it
pub record HostFollows (h : HostSeen) : Type 0 where
  pub planned : IsPlan h.plan
  pub at : HostAt h.plan h

-- the part is the next one, and the last one is done
abbrev pub HostMayBegin : HostSeen → Part → Type 0
HostMayBegin h part = (part_after h.plan h.part ≡ Some part) × (host_can_begin h ≡ true)
