-- How both controls stand once all is said.
use Rattle.std.specs.Prelude.{◌≡◌, ℕ, ◌≤◌, true, List, length, map, Some}
use Rattle.std.specs.List.{range_with_len}
use Rattle.std.specs.Option.{option_map}
use Rattle.contact.specs.declared.version.Version.{Version}
use Rattle.contact.specs.declared.part.Part.TheVariants.{Unload}
use Rattle.control_model.specs.Plan.{BusPlan}
use Rattle.control_model.specs.Said.{said_by_guest, said_by_host, channel_count, last_state, at_end}
use Rattle.control_model.specs.Guest.{GuestSeen, state_of, guest_done}
use Rattle.control_model.specs.Host.{HostSeen, host_state_of, host_done}
use Rattle.control_model.specs.Channels.{by_relid}
use Rattle.control_model.specs.Stand.{Agreed, vps_before}

-- the processors of all channels at the end, in order of relid: that of a channel that phases moved is the last one that it was moved to, and that of each other one is 0
abbrev pub vps_at_end : BusPlan → List ℕ
vps_at_end plan = map (vps_before plan (length plan.phases)) (range_with_len 1 (channel_count plan))

-- both are done with the farewell: they have one version, which is the greatest that both know; their channels stand as they are to at the end, and have the processors that they are to have; each said all that it has to say, and was fed what the other said
pub record IsOver (plan : BusPlan) (g : GuestSeen) (h : HostSeen) : Type 0 where
  pub guest_part : g.part ≡ Some Unload
  pub host_part : h.part ≡ Some Unload
  pub guest_done : guest_done g ≡ true
  pub host_done : host_done h ≡ true
  pub version : Version
  pub agreed : Agreed plan version
  pub at_guest : g.version ≡ Some version
  pub at_host : h.version ≡ Some version
  pub guest_stands : map (λ c. c.life.state) g.channels ≡ at_end plan
  pub host_stands : map (λ c. c.state) h.channels ≡ at_end plan
  pub guest_vps : map (λ c. c.life.vp) g.channels ≡ vps_at_end plan
  pub host_vps : map (λ c. c.vp) h.channels ≡ vps_at_end plan
  pub guest_said : g.posted ≡ said_by_guest plan
  pub host_said : h.posted ≡ said_by_host plan
  pub guest_fed : g.fed ≡ h.posted
  pub host_fed : h.fed ≡ g.posted

-- there is a channel for each device and for each sub-channel that a phase opened, and each stands as it is to at the end, and has the processor that it is to have
pub record StandsSo (plan : BusPlan) (g : GuestSeen) (h : HostSeen) : Type 0 where
  pub guest_many : length g.channels ≡ channel_count plan
  pub host_many : length h.channels ≡ channel_count plan
  pub guest_each : (relid : ℕ) → 1 ≤ relid → relid ≤ channel_count plan → state_of g relid ≡ Some (last_state plan relid)
  pub host_each : (relid : ℕ) → 1 ≤ relid → relid ≤ channel_count plan → host_state_of h relid ≡ Some (last_state plan relid)
  pub guest_vp : (relid : ℕ) → 1 ≤ relid → relid ≤ channel_count plan → option_map (λ c. c.life.vp) (by_relid g.channels relid) ≡ Some (vps_before plan (length plan.phases) relid)
  pub host_vp : (relid : ℕ) → 1 ≤ relid → relid ≤ channel_count plan → option_map (λ c. c.vp) (by_relid h.channels relid) ≡ Some (vps_before plan (length plan.phases) relid)
