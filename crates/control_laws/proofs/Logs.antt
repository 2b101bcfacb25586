-- What a side has sent and was fed, and a side of a plan.
use Rattle.std.proofs.Common.{List, Option}
use Rattle.control_laws.proofs.Words.{Version, Part, ChanState, Assembly, Msg, Channel, GuestWait, HostWait}
use Rattle.control_model.specs.Plan.{BusPlan}
use Rattle.control_model.specs.Guest.{GuestSeen}
use Rattle.control_model.specs.Host.{HostSeen}

pub record Logs : Type 0 where
  pub posted : List Msg
  pub fed : List Msg

-- a guest
abbrev pub a_guest : BusPlan → Logs → Option Part → GuestWait → Option Version → List Channel → GuestSeen
a_guest plan logs part awaits version channels = record {
  plan = plan;
  part = part;
  awaits = awaits;
  version = version;
  channels = channels;
  posted = logs.posted;
  fed = logs.fed;
}

-- a host
abbrev pub a_host : BusPlan → Logs → Option Part → HostWait → Option Version → List ChanState → Assembly → HostSeen
a_host plan logs part awaits version channels lists = record {
  plan = plan;
  part = part;
  awaits = awaits;
  version = version;
  channels = channels;
  lists = lists;
  posted = logs.posted;
  fed = logs.fed;
}
