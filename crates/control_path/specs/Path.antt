-- Both controls of a control path and their ends of the queues between them.
use Rattle.std.specs.Prelude.{◌≡◌, ◌⊎◌, true, [], Option, Some}
use Rattle.contact.specs.declared.part.Part.{Part}
use Rattle.control_model.specs.declared.fault.ControlFault.{ControlFault}
use Rattle.control_model.specs.declared.fault.ControlFault.TheVariants.{Memory}
use Rattle.control_model.specs.Plan.{IsPlan}
use Rattle.control_model.specs.Guest.{new_guest, GuestSeen, can_begin, guest_done}
use Rattle.control_model.specs.Host.{new_host, HostSeen, host_can_begin, host_done}
use Rattle.control_side.specs.declared.part_done.PartDone.{PartDone}
use Rattle.control_side.specs.declared.part_left.PartLeft.{PartLeft}
use Rattle.control_side.specs.Sides.{AtRest, Served}
use Rattle.control_path.specs.declared.ends.Ends.{Ends}
use Rattle.mail_box.specs.Mail.{Closes}
use Rattle.guest_end.specs.AsSide.{guest_side, GuestFollows}
use Rattle.host_end.specs.AsSide.{host_side, HostFollows}
use Rattle.control_path.specs.declared.path.ControlPath.{ControlPath}

-- two controls that were made from one plan, before their first part
pub record AreNew (g : GuestSeen) (h : HostSeen) : Type 0 where
  pub planned : IsPlan g.plan
  pub guest : g ≡ new_guest g.plan
  pub host : h ≡ new_host g.plan

-- Between two parts: both controls stand by one plan as what they were fed brings them, and may begin the part that comes next. All that each posted was put, and
-- all that it fetched it was fed; each fetches what the other puts; each queue has room for 64 messages; and both boxes are empty
pub record Rests (p : ControlPath) : Type 0 where
  pub guest : GuestFollows p.guest
  pub host : HostFollows p.host
  pub plan : p.host.plan ≡ p.guest.plan
  pub part : p.host.part ≡ p.guest.part
  pub guest_ready : can_begin p.guest ≡ true
  pub host_ready : host_can_begin p.host ≡ true
  pub guest_rests : AtRest (guest_side p.guest) p.guest_fetch p.guest_post
  pub host_rests : AtRest (host_side p.host) p.host_fetch p.host_post
  pub to_host : p.guest_post.queue ≡ p.host_fetch.queue
  pub to_guest : p.host_post.queue ≡ p.guest_fetch.queue
  pub to_host_size : (p.guest_post.size ≡ 64) × (p.host_fetch.size ≡ 64)
  pub to_guest_size : (p.host_post.size ≡ 64) × (p.guest_fetch.size ≡ 64)
  pub guest_box : p.guest_box ≡ record { size = 64; queue = [] }
  pub host_box : p.host_box ≡ record { size = 64; queue = [] }

-- two paths are one path, at two moments: their queues are the same
pub record IsSamePath (p q : ControlPath) : Type 0 where
  pub to_host : q.guest_post.queue ≡ p.guest_post.queue
  pub to_guest : q.host_post.queue ≡ p.host_post.queue

-- a part was run: both are done with it, and rest, over the same queues
pub record RanPart (old new : ControlPath) (part : Part) : Type 0 where
  pub rests : Rests new
  pub same : IsSamePath old new
  pub plan : new.guest.plan ≡ old.guest.plan
  pub guest_part : new.guest.part ≡ Some part
  pub host_part : new.host.part ≡ Some part
  pub guest_done : guest_done new.guest ≡ true
  pub host_done : host_done new.host ≡ true

-- the path of what a part leaves
abbrev pub joined : PartLeft GuestSeen → PartLeft HostSeen → ControlPath
joined guest host = record {
  guest = guest.done.control;
  host = host.done.control;
  guest_post = guest.done.post;
  guest_fetch = guest.done.fetch;
  host_post = host.done.post;
  host_fetch = host.done.fetch;
  guest_box = guest.local;
  host_box = host.local;
}

-- one of the two faults is want of memory
abbrev pub WantMemory : Option ControlFault → Option ControlFault → Type 0
WantMemory guest host = (guest ≡ Some Memory) ⊎ (host ≡ Some Memory)

-- what both sides left was ended, because one of them wanted memory
pub record EndsInWant (of_guest : PartDone GuestSeen) (of_host : PartDone HostSeen) (ends : Ends GuestSeen HostSeen) : Type 0 where
  pub guest : ends.guest ≡ of_guest.control
  pub host : ends.host ≡ of_host.control
  pub guest_fault : ends.guest_fault ≡ of_guest.fault
  pub host_fault : ends.host_fault ≡ of_host.fault
  pub to_host : Closes of_guest.post of_host.fetch ends.to_host
  pub to_guest : Closes of_host.post of_guest.fetch ends.to_guest
  pub wants : WantMemory ends.guest_fault ends.host_fault

-- both sides of a path served the part over their ends of both queues, and one of them wanted memory in it
pub record RanInWant (old : ControlPath) (part : Part) (ends : Ends GuestSeen HostSeen) : Type 0 where
  pub guest_left : PartDone GuestSeen
  pub host_left : PartDone HostSeen
  pub guest : Served part (guest_side old.guest) old.guest_fetch old.guest_post (guest_side guest_left.control) guest_left.fetch guest_left.post guest_left.fault
  pub host : Served part (host_side old.host) old.host_fetch old.host_post (host_side host_left.control) host_left.fetch host_left.post host_left.fault
  pub ends_so : EndsInWant guest_left host_left ends
