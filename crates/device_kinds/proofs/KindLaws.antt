-- Each kind of device keeps to what kinds keep to, in the steps, requests and replies of all kinds.
use Rattle.std.proofs.Common.{◌≡◌, ℕ, ◌<◌, ◌≤◌, true, false, List, length, filter, map, Some, Ok, refl, sym, ap, subst, ◌∙◌, arith}
use Rattle.std.specs.List.{AllByRecursion}
use Rattle.contact.specs.declared.kind.DeviceKind.{DeviceKind}
use Rattle.contact.specs.declared.kind.DeviceKind.TheVariants.{Beat, Down, Disk, Net, Kvp}
use Rattle.util_ic.specs.declared.ic.IcAsk.{IcAsk}
use Rattle.util_ic.specs.declared.ic.IcAnswer.{IcAnswer}
use Rattle.util_ic.specs.Asks.{reply_of}
use Rattle.scsi_disk.specs.DiskModel.{IsSized}
use Rattle.scsi_disk.specs.declared.request.DiskRequest.{DiskRequest}
use Rattle.scsi_disk.specs.declared.reply.DiskReply.{DiskReply}
use Rattle.rndis_msg.specs.declared.rndis.Rndis.{Rndis}
use Rattle.rndis_msg.specs.declared.rndis.Rndis.TheVariants.{Packet, Query, Set, Reset, Keepalive}
use Rattle.net_dev.specs.declared.reply.NetReply.{NetReply}
use Rattle.net_dev.specs.Station.{Keeps as StationKeeps}
use Rattle.kvp_ic.specs.Messages.{CanBeAsked}
use Rattle.script_lines.specs.Requests.{IsSent}
use Rattle.script_lines.specs.declared.line.Ask.{Ask}
use Rattle.script_lines.specs.declared.line.Ask.TheVariants.{Ic as AskIc, Disk as AskDisk, Net as AskNet, Kvp as AskKvp}
use Rattle.bus_script.specs.declared.outcome.Reply.TheVariants.{Ic as ReplyIc, Disk as ReplyDisk, Net as ReplyNet, Kvp as ReplyKvp}
use Rattle.channel_model.specs.Amounts.{HasNoMessages, MayHaveMessages}
use Rattle.channel_model.specs.WireFormat.{Keeps}
use Rattle.channel_model.specs.Channel.{AllFixed, AllAsk}
use Rattle.channel_protocol.specs.Paged.{KeepsPages}
use Rattle.device_wire.specs.declared.buffer_lists.BufferLists.{BufferLists}
use Rattle.device_wire.specs.declared.want.Want.TheVariants.{Request}
use Rattle.device_wire.specs.WireModels.{KeepsWire}
use Rattle.device_wire.specs.Lifted.{IsCase}
use Rattle.device_wire.proofs.LiftedLaws.{kept_lifted}
use Rattle.device_wire.proofs.WireLaws as wire
use Rattle.ic_format.specs.Services.{ic_model, IsIcAsk}
use Rattle.ic_format.proofs.ServiceLaws.{reply_fits}
use Rattle.ic_format.proofs.KindLaws.{service_kept}
use Rattle.disk_format.specs.PageDisks.{disk_model, IsPageAsk}
use Rattle.disk_format.proofs.DoneLaws.{sized_fits}
use Rattle.disk_format.proofs.PageFormatLaws.{page_kept as disk_kept}
use Rattle.net_format.specs.Nets.{can_ask, IsNetAsk}
use Rattle.net_format.specs.PageNets.{net_model}
use Rattle.net_format.proofs.NetLaws.{formed_test, station_fits}
use Rattle.net_format.proofs.NetPageLaws.{page_kept as net_kept}
use Rattle.kvp_format.specs.Pairs.{kvp_model}
use Rattle.kvp_format.proofs.PairLaws.{pair_kept, pair_reply_fits}
use Rattle.device_kinds.specs.Kinds.{Known, services, disks, nets, pairs, known, model_of, IsAskable}
use Rattle.device_kinds.specs.Formats.{asked_as, besides_on, encode_on, read_on, fits_on, format_of, has_answer_on, lends_on, startup}

-- a request and a reply of a kind are those that are found in them

pub case_services : IsCase services
case_services = record { step_found = λ s. refl; found = λ q. refl; asked = elim [ AskIc x ↦ λ q h. cc | _ ↦ λ q h. cc ]; replied = elim [ ReplyIc x ↦ λ r h. cc | _ ↦ λ r h. cc ] }

pub case_disks : IsCase disks
case_disks = record { step_found = λ s. refl; found = λ q. refl; asked = elim [ AskDisk x ↦ λ q h. cc | _ ↦ λ q h. cc ]; replied = elim [ ReplyDisk x ↦ λ r h. cc | _ ↦ λ r h. cc ] }

pub case_nets : IsCase nets
case_nets = record {
  step_found = λ s. refl;
  found = λ q. refl;
  asked = elim [ AskNet x ↦ λ q h. cc | _ ↦ λ q h. cc ];
  replied = elim [ ReplyNet status back ↦ λ r h. let same : r ≡ record { status = status; back = back } = cc in ap nets.reply same | _ ↦ λ r h. cc ];
}

pub case_pairs : IsCase pairs
case_pairs = record { step_found = λ s. refl; found = λ q. refl; asked = elim [ AskKvp x ↦ λ q h. cc | _ ↦ λ q h. cc ]; replied = elim [ ReplyKvp x ↦ λ r h. cc | _ ↦ λ r h. cc ] }

-- what a kind keeps to among all
record IsKind (k : Known) : Type 0 where
  pub kept : KeepsWire k.model k.CanAsk
  pub fits : (q : k.Q) (r : k.R) → k.MayReply q r → k.model.format.fits (k.request q) (k.reply r) ≡ true

each_kind : (kind : DeviceKind) → IsKind (known kind)
each_kind Beat = record { kept = kept_lifted services case_services (ic_model Beat) (IsIcAsk Beat) (service_kept Beat); fits = reply_fits Beat }
each_kind Down = record { kept = kept_lifted services case_services (ic_model Down) (IsIcAsk Down) (service_kept Down); fits = reply_fits Down }
each_kind Disk = record { kept = kept_lifted disks case_disks disk_model IsPageAsk disk_kept; fits = sized_fits }
each_kind Net = record { kept = kept_lifted nets case_nets net_model IsNetAsk net_kept; fits = station_fits }
each_kind Kvp = record { kept = kept_lifted pairs case_pairs kvp_model CanBeAsked pair_kept; fits = pair_reply_fits }

pub kept_by : (kind : DeviceKind) → KeepsWire (model_of kind) (IsAskable kind)
kept_by kind = (each_kind kind).kept

-- each request that can be asked of a kind's device can be asked among all, and each reply that it may give fits
pub asks : (kind : DeviceKind) (q : (known kind).Q) → (known kind).CanBe q → IsAskable kind ((known kind).request q)
asks Beat q can = can
asks _ q can = can

pub replies_fit : (kind : DeviceKind) (q : (known kind).Q) (r : (known kind).R) → (known kind).MayReply q r → fits_on kind ((known kind).request q) ((known kind).reply r) ≡ true
replies_fit kind = (each_kind kind).fits

-- a network's requests alone are asked under another id
asked_so : (kind : DeviceKind) (id : ℕ) (ask : Ask) → IsAskable kind ask → (model_of kind).asked_as id ask ≡ asked_as id ask
asked_so Net id (AskNet message) can = refl
asked_so _ id (AskNet message) can = absurd can
asked_so _ id _ can = refl

-- what follows for all kinds

pub keeps : (kind : DeviceKind) → Keeps (format_of kind)
keeps kind = (kept_by kind).keeps

pub may_have : (kind : DeviceKind) → MayHaveMessages (format_of kind) (besides_on kind)
may_have kind = (kept_by kind).may

pub no_messages : (kind : DeviceKind) → besides_on kind ≡ false → HasNoMessages (format_of kind)
no_messages kind = wire.no_messages (model_of kind) (IsAskable kind) (kept_by kind)

pub pages_kept : (kind : DeviceKind) → lends_on kind ≡ true → KeepsPages (format_of kind)
pages_kept kind lends = (kept_by kind).paged lends

pub start_is_fixed : (kind : DeviceKind) (sub subs : ℕ) (lists : BufferLists) → AllFixed (format_of kind) (startup kind sub subs lists)
start_is_fixed kind = wire.start_is_fixed (model_of kind) (IsAskable kind) (kept_by kind)

pub few_starts : (kind : DeviceKind) (sub subs : ℕ) (lists : BufferLists) → length (startup kind sub subs lists) ≤ 5
few_starts kind = wire.few_starts (model_of kind) (IsAskable kind) (kept_by kind)

pub same_starts : (kind : DeviceKind) (sub subs : ℕ) (lists others : BufferLists) → length (startup kind sub subs lists) ≡ length (startup kind sub subs others)
same_starts kind = wire.same_starts (model_of kind) (IsAskable kind) (kept_by kind)

pub same_answers : (kind : DeviceKind) (sub subs : ℕ) (lists others : BufferLists) → length (filter (has_answer_on kind) (startup kind sub subs lists)) ≡ length (filter (has_answer_on kind) (startup kind sub subs others))
same_answers kind = wire.same_answers (model_of kind) (IsAskable kind) (kept_by kind)

-- as many of its steps have answers as its kind says
pub answers_counted : (kind : DeviceKind) (subs : ℕ) (lists : BufferLists) → length (filter (has_answer_on kind) (startup kind 0 subs lists)) ≡ wire.ones (map (model_of kind).answered ((model_of kind).steps subs lists))
answers_counted kind subs lists = wire.filter_ones (has_answer_on kind) (model_of kind).answered ((model_of kind).steps subs lists) (kept_by kind).waits

-- the device is asked what the script asked, and each request has an answer
pub asked_is : (kind : DeviceKind) (id : ℕ) (ask : Ask) → IsAskable kind ask → read_on kind (encode_on kind id (Request ask)) ≡ Some (asked_as id ask)
asked_is kind id ask can = (kept_by kind).asked id ask can ∙ ap Some (asked_so kind id ask can)

pub script_asks : (kind : DeviceKind) (asks : List Ask) → AllByRecursion (IsAskable kind) asks → AllAsk (format_of kind) (map Request asks)
script_asks kind = wire.script_asks (model_of kind) (IsAskable kind) (kept_by kind)

pub script_waits : (kind : DeviceKind) (ask : Ask) → IsAskable kind ask → has_answer_on kind (Request ask) ≡ true
script_waits kind = wire.script_waits (model_of kind) (IsAskable kind) (kept_by kind)

-- each reply of a service, of a disk, or of an adapter fits
pub beat_fits : (q : IcAsk) (r : IcAnswer) → r ≡ reply_of Beat q → fits_on Beat (AskIc q) (ReplyIc r) ≡ true
beat_fits = replies_fit Beat

pub down_fits : (q : IcAsk) (r : IcAnswer) → r ≡ reply_of Down q → fits_on Down (AskIc q) (ReplyIc r) ≡ true
down_fits = replies_fit Down

pub disk_reply_fits : (q : DiskRequest) (r : DiskReply) → IsSized q r → fits_on Disk (AskDisk q) (ReplyDisk r) ≡ true
disk_reply_fits = replies_fit Disk

pub net_reply_fits : (q : Rndis) (r : NetReply) → StationKeeps (Ok q) r → fits_on Net (AskNet q) (ReplyNet r.status r.back) ≡ true
net_reply_fits = replies_fit Net

-- each message that a line of a script sends can be asked
pub sent_can : (m : Rndis) → IsSent m → can_ask m ≡ true
unfolding can_ask
sent_can (Packet body) sent = formed_test (Packet body) (record { fields = tt; few = sent.1 }) sent.2
sent_can (Query request_id oid body) sent =
    let none = sent.2 in
    let small = sent.0 in
    formed_test (Query request_id oid body) (record { fields = (omega (arith, small), (omega (arith, sent.1), tt)); few = omega (arith, ap length none) }) (subst (AllByRecursion (λ b. b < 256)) (sym none) tt)
sent_can (Set request_id oid body) sent =
    let small = sent.0 in
    formed_test (Set request_id oid body) (record { fields = (omega (arith, small), (omega (arith, sent.1), tt)); few = omega (arith, sent.3) }) sent.4
sent_can Reset sent = formed_test Reset (record { fields = tt; few = omega arith }) tt
sent_can (Keepalive request_id) sent = let small = sent in formed_test (Keepalive request_id) (record { fields = (omega (arith, small), tt); few = omega arith }) tt
sent_can m sent = absurd sent
