-- A guest's control as one side of the control path.
use Rattle.std.specs.Prelude.{◌≡◌, true, Some}
use Rattle.contact.specs.declared.part.Part.{Part}
use Rattle.control_model.specs.Plan.{part_after, IsPlan}
use Rattle.control_model.specs.Messages.{farewell, farewell_taken}
use Rattle.control_model.specs.Said.{said_by_guest, said_by_host}
use Rattle.control_model.specs.Guest.{GuestSeen, can_begin, guest_done}
use Rattle.control_model.specs.GuestAt.{GuestAt}
use Rattle.control_side.specs.Sides.{Side}

-- It says and hears what both say over its plan. UNLOAD_RESPONSE, which no host ever takes, ends what it says early, and UNLOAD, which no guest ever takes, what
-- it hears
abbrev pub guest_side : GuestSeen → Side
guest_side g = record {
  plan = g.plan;
  part = g.part;
  says = said_by_guest g.plan;
  parting = farewell_taken;
  hears = said_by_host g.plan;
  cut = farewell;
  posted = g.posted;
  fed = g.fed;
  done = guest_done g;
}

-- it goes by a plan, and stands where all that it was fed brings it
pub record GuestFollows (g : GuestSeen) : Type 0 where
  pub planned : IsPlan g.plan
  pub at : GuestAt g.plan g

-- the part is the next one, and the last one is done
abbrev pub GuestMayBegin : GuestSeen → Part → Type 0
GuestMayBegin g part = (part_after g.plan g.part ≡ Some part) × (can_begin g ≡ true)
