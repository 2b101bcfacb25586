-- What each kind of device is asked and replies, among what all kinds are.
use Rattle.std.specs.Prelude.{◌≡◌, Option, Some, None, Ok}
use Rattle.contact.specs.declared.kind.DeviceKind.{DeviceKind}
use Rattle.contact.specs.declared.kind.DeviceKind.TheVariants.{Beat, Down, Disk, Net, Kvp}
use Rattle.util_ic.specs.declared.ic.IcAsk.{IcAsk}
use Rattle.util_ic.specs.declared.ic.IcAnswer.{IcAnswer}
use Rattle.util_ic.specs.Asks.{reply_of}
use Rattle.scsi_disk.specs.DiskModel.{IsSized}
use Rattle.scsi_disk.specs.declared.request.DiskRequest.{DiskRequest}
use Rattle.scsi_disk.specs.declared.reply.DiskReply.{DiskReply}
use Rattle.scsi_disk.specs.declared.reply.DiskReply.TheVariants.{Check}
use Rattle.rndis_msg.specs.declared.rndis.Rndis.{Rndis}
use Rattle.net_dev.specs.declared.reply.NetReply.{NetReply}
use Rattle.net_dev.specs.Station.{not_served, Keeps as StationKeeps}
use Rattle.kvp_ic.specs.declared.message.Kvp.{Kvp as Message}
use Rattle.kvp_ic.specs.declared.message.KvpReply.{KvpReply}
use Rattle.kvp_ic.specs.Machine.{no_pool, IsReplyTo}
use Rattle.kvp_ic.specs.Messages.{CanBeAsked}
use Rattle.script_lines.specs.declared.line.Ask.{Ask}
use Rattle.script_lines.specs.declared.line.Ask.TheVariants.{Ic as AskIc, Disk as AskDisk, Net as AskNet, Kvp as AskKvp}
use Rattle.bus_script.specs.declared.outcome.Reply.{Reply}
use Rattle.bus_script.specs.declared.outcome.Reply.TheVariants.{Ic as ReplyIc, Disk as ReplyDisk, Net as ReplyNet, Kvp as ReplyKvp}
use Rattle.device_wire.specs.declared.want.Want.{Want}
use Rattle.device_wire.specs.WireModels.{WireModel}
use Rattle.device_wire.specs.Lifted.{Case, CanAmong, lift_model}
use Rattle.ic_format.specs.declared.ic_step.IcStep.{IcStep}
use Rattle.ic_format.specs.declared.ic_step.IcStep.TheVariants.{Negotiate}
use Rattle.ic_format.specs.Services.{ic_model, IsIcAsk}
use Rattle.disk_format.specs.declared.disk_step.DiskStep.{DiskStep}
use Rattle.disk_format.specs.declared.disk_step.DiskStep.TheVariants.{Begin}
use Rattle.disk_format.specs.PageDisks.{disk_model, IsPageAsk}
use Rattle.net_format.specs.declared.net_step.NetStep.{NetStep}
use Rattle.net_format.specs.declared.net_step.NetStep.TheVariants.{Init}
use Rattle.net_format.specs.Nets.{IsNetAsk}
use Rattle.net_format.specs.PageNets.{net_model}
use Rattle.kvp_format.specs.declared.kvp_step.KvpStep.{KvpStep}
use Rattle.kvp_format.specs.declared.kvp_step.KvpStep.TheVariants.{Negotiate as PairNegotiate}
use Rattle.kvp_format.specs.Pairs.{kvp_model}
use Rattle.device_kinds.specs.declared.device_step.DeviceStep.{DeviceStep}
use Rattle.device_kinds.specs.declared.device_step.DeviceStep.TheVariants.{Ic as StepIc, Disk as StepDisk, Net as StepNet, Kvp as StepKvp}

-- one case of a type of all kinds: what is made of a value, and the value that is found in that case
pub record One (X Y : Type 0) : Type 0 where
  pub made : X → Y
  pub found : Y → Option X

abbrev pub one : {X Y : Type 0} → (X → Y) → (Y → Option X) → One X Y
one made found = record { made = made; found = found }

-- a kind whose steps, requests and replies are these cases, with its first step, and a reply that fits no request
abbrev pub case_of : {S Q R : Type 0} → S → R → One S DeviceStep → One Q Ask → One R Reply → Case S Q R DeviceStep Ask Reply
case_of first other step request reply = record {
  step = step.made;
  own_step = step.found;
  first = first;
  request = request.made;
  own_request = request.found;
  reply = reply.made;
  own_reply = reply.found;
  other = other;
}

-- services, disks, networks, and key-value services among all kinds
abbrev pub services : Case IcStep IcAsk IcAnswer DeviceStep Ask Reply
services = case_of Negotiate (record { status = 0; seq = 0 })
    (one StepIc (elim [ StepIc s ↦ Some s | _ ↦ None ]))
    (one AskIc (elim [ AskIc ask ↦ Some ask | _ ↦ None ]))
    (one ReplyIc (elim [ ReplyIc r ↦ Some r | _ ↦ None ]))

abbrev pub disks : Case DiskStep DiskRequest DiskReply DeviceStep Ask Reply
disks = case_of Begin (Check 0 0 0)
    (one StepDisk (elim [ StepDisk s ↦ Some s | _ ↦ None ]))
    (one AskDisk (elim [ AskDisk q ↦ Some q | _ ↦ None ]))
    (one ReplyDisk (elim [ ReplyDisk r ↦ Some r | _ ↦ None ]))

abbrev pub nets : Case NetStep Rndis NetReply DeviceStep Ask Reply
nets = case_of Init not_served
    (one StepNet (elim [ StepNet s ↦ Some s | _ ↦ None ]))
    (one AskNet (elim [ AskNet message ↦ Some message | _ ↦ None ]))
    (one (λ r. ReplyNet r.status r.back) (elim [ ReplyNet status back ↦ Some (record { status = status; back = back }) | _ ↦ None ]))

abbrev pub pairs : Case KvpStep Message KvpReply DeviceStep Ask Reply
pairs = case_of PairNegotiate no_pool
    (one StepKvp (elim [ StepKvp s ↦ Some s | _ ↦ None ]))
    (one AskKvp (elim [ AskKvp m ↦ Some m | _ ↦ None ]))
    (one ReplyKvp (elim [ ReplyKvp r ↦ Some r | _ ↦ None ]))

-- what is asked on a channel of any kind
abbrev pub DeviceWant : Type 0
DeviceWant = Want DeviceStep Ask

-- What is known of a kind among all: what is asked of its device and what this may reply, as the kind has it, and what both ends of its channel say and what can be asked there, in the steps, requests and
-- replies of all kinds
pub record Known : Type 1 where
  pub Q : Type 0
  pub R : Type 0
  pub request : Q → Ask
  pub reply : R → Reply
  pub CanBe : Q → Type 0
  pub MayReply : Q → R → Type 0
  pub model : WireModel DeviceStep Ask Reply
  pub CanAsk : Ask → Type 0

abbrev pub known_by : {S Q R : Type 0} → WireModel S Q R → Case S Q R DeviceStep Ask Reply → (Q → Type 0) → (Q → R → Type 0) → Known
known_by {S} {Q} {R} m c CanBe MayReply = record {
  Q = Q;
  R = R;
  request = c.request;
  reply = c.reply;
  CanBe = CanBe;
  MayReply = MayReply;
  model = lift_model m c;
  CanAsk = CanAmong c CanBe;
}

abbrev pub known : DeviceKind → Known
known Beat = known_by (ic_model Beat) services (IsIcAsk Beat) (λ q r. r ≡ reply_of Beat q)
known Down = known_by (ic_model Down) services (IsIcAsk Down) (λ q r. r ≡ reply_of Down q)
known Disk = known_by disk_model disks IsPageAsk IsSized
known Net = known_by net_model nets IsNetAsk (λ q r. StationKeeps (Ok q) r)
known Kvp = known_by kvp_model pairs CanBeAsked IsReplyTo

-- what both ends of a channel of this kind say, in the steps, requests and replies of all kinds
abbrev pub model_of : DeviceKind → WireModel DeviceStep Ask Reply
model_of kind = (known kind).model

-- this can be asked on a channel of this kind
abbrev pub IsAskable : DeviceKind → Ask → Type 0
IsAskable kind = (known kind).CanAsk
