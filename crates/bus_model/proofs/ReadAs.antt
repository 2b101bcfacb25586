-- What is written on a channel of each kind is as it is read: what no page words go along with, and of a disk's and a network's channel what their packets say.
use Rattle.std.proofs.Common.{◌≡◌, ℕ, Bool, true, false, cond, ◌&&◌, List, [], ◌∷◌, ◌++◌, length, Option, Some, None, refl, subst, sym, arith, ◌<◌, ◌^◌, ap}
use Rattle.std.specs.Prelude.{is_none}
use Rattle.std.proofs.lemmas.List.{take_all}
use Rattle.page_kept.specs.declared.item.Item.{Item}
use Rattle.contact.specs.declared.kind.DeviceKind.{DeviceKind}
use Rattle.contact.specs.declared.kind.DeviceKind.TheVariants.{Beat, Down, Disk, Net, Kvp}
use Rattle.script_lines.specs.declared.line.Ask.{Ask}
use Rattle.bus_script.specs.declared.outcome.Reply.{Reply}
use Rattle.channel_model.specs.Lift.{lift, or_else}
use Rattle.channel_model.specs.WireFormat.{Back, listed, packets_in, packets_of, under_own}
use Rattle.device_kinds.specs.Kinds.{disks, nets, pairs, services}
use Rattle.device_wire.specs.Codecs.{Codec, alone, format_by}
use Rattle.device_wire.specs.Lifted.{Case, among, want_of}
use Rattle.device_wire.specs.declared.want.Want.{Want}
use Rattle.device_kinds.specs.declared.device_step.DeviceStep.{DeviceStep}
use Rattle.device_wire.proofs.LiftedLaws.{replies}
use Rattle.device_kinds.proofs.KindLaws.{case_disks, case_nets}
use Rattle.device_kinds.specs.Formats.{format_of}
use Rattle.device_packets.specs.Said.{said_item}
use Rattle.net_format.specs.PageNets.{message_of, net_ack, net_fixed, net_format, net_gives}
use Rattle.disk_format.specs.PageDisks.{page_answer, page_codec, page_fixed, page_read, page_waits}
use Rattle.ic_format.specs.Services.{service_codec}
use Rattle.disk_format.proofs.PageFormatLaws.{said_answered, said_encoded, said_fixed_so}
use Rattle.net_format.proofs.NetLaws.{fits_parts}
use Rattle.net_format.proofs.NetPageLaws.{of_fixed, said_acked, said_back, said_fixed, said_given, said_encoded as said_net_encoded}
use Rattle.kvp_format.specs.Pairs.{pair_codec}
use Rattle.device_packets.proofs.SaidLaws.{said_bare}
use Rattle.rndis_msg.specs.declared.rndis.Rndis.{Rndis}
use Rattle.net_dev.specs.declared.reply.NetReply.{NetReply}
use Rattle.net_dev.specs.Station.{initialize_reply}
use Rattle.bus_model.proofs.Made.{AllSo, ReadsSo}

-- packets of a kind that lends nothing have no page words, where one packet answers each request
bare_if : (b : Bool) (p : Item) (own : ℕ) → said_item p ≡ p → AllSo said_item (packets_in own (cond b (Some (alone p)) None))
bare_if true p own so = (so, tt)
bare_if false p own so = tt

bare_so : {S Q R : Type 0} (x : Codec Item (Want S Q) Q R) (c : Case S Q R DeviceStep Ask Reply) → ((id : ℕ) (a : Want S Q) → said_item (x.encode id a) ≡ x.encode id a)
    → ((i : Item) (r : R) → said_item (x.answer i r) ≡ x.answer i r) → ((i : Item) → said_item (x.fixed i) ≡ x.fixed i) → ReadsSo said_item (lift (format_by x) (among c))
bare_so x c encoded answered fixed = record {
  asks = λ id a. encoded id (want_of c a);
  given = λ i q r own h fits. (answered i (or_else c.other (c.own_reply r)), tt);
  fixed = λ i own. bare_if (x.waits i && is_none (x.read i)) (x.fixed i) own (fixed i);
  acked = fixed;
}

-- a disk's answers
given_so : (i : Item) (q : Ask) (r : Reply) → (format_of Disk).read i ≡ Some q → (format_of Disk).fits q r ≡ true → said_item (page_answer i (or_else disks.other (disks.own_reply r))) ≡ page_answer i (or_else disks.other (disks.own_reply r))
given_so i q r h fits =
    let own = replies disks case_disks (format_by page_codec) i q r h fits in
    let a = page_answer i own.replied in
    subst (λ (x : Item). said_item x ≡ x) (ap (λ o. page_answer i (or_else disks.other o)) (sym own.is)) (said_answered i own.asked own.replied a own.reads own.holds refl (take_all (length a.words) a.words (omega arith)))

fixed_if : (waits none : Bool) (i : Item) (own : ℕ) → (waits ≡ true → said_item (page_fixed i) ≡ page_fixed i) → AllSo said_item (packets_in own (cond (waits && none) (Some (alone (page_fixed i))) None))
fixed_if true true i own h = (h refl, tt)
fixed_if true false i own h = tt
fixed_if false none i own h = tt

-- a disk's packets acknowledge nothing: what would is a completion without page words
acked_so : (i : Item) → said_item (page_fixed i) ≡ page_fixed i
unfolding page_fixed
acked_so i = said_bare (page_fixed i).packet

disk_so : ReadsSo said_item (format_of Disk)
disk_so = record {
  asks = λ id a. said_encoded id (want_of disks a);
  given = λ i q r own h fits. (given_so i q r h fits, tt);
  fixed = λ i own. fixed_if (page_waits i) (is_none (page_read i)) i own (λ waits. said_fixed_so i (page_fixed i) waits refl);
  acked = λ i. acked_so i;
}

-- a network's messages, each in its page, and its completions
net_messages : (own : ℕ) (o : Option Rndis) (rest : List Item) → AllSo said_item rest → AllSo said_item (listed (under_own own (message_of o)) ++ rest)
net_messages own None rest h = h
net_messages own (Some m) rest h = (said_back own m, h)

net_back_so : (own : ℕ) (i : Item) (r : NetReply) → r.status < 2 ^ 32 → AllSo said_item (packets_of own (net_gives i r))
net_back_so own i r small = net_messages own r.back ((net_gives i r).answer ∷ []) (said_given i (net_gives i r).answer r small refl, tt)

net_given_so : (i : Item) (q : Ask) (r : Reply) (own : ℕ) → (format_of Net).read i ≡ Some q → (format_of Net).fits q r ≡ true → AllSo said_item (packets_of own (net_gives i (or_else nets.other (nets.own_reply r))))
net_given_so i q r own h fits =
    let x = replies nets case_nets net_format i q r h fits in
    subst (λ (o : NetReply). AllSo said_item (packets_of own (net_gives i o))) (sym (ap (or_else nets.other) x.is)) (net_back_so own i x.replied (fits_parts x.asked x.replied x.holds).0)

net_fixed_so : (i : Item) (own : ℕ) (o : Option (Back Item)) → net_fixed i ≡ o → AllSo said_item (packets_in own o)
net_fixed_so i own None is = tt
net_fixed_so i own (Some b) is =
    of_fixed (λ (x : Back Item). (x.answer.packet ≡ x.answer.packet → said_item x.answer ≡ x.answer) → AllSo said_item (packets_of own x)) i b
    (λ h. (h refl, tt)) (λ h. (h refl, tt)) (λ h. (h refl, tt)) (λ request_id h. (said_back own (initialize_reply request_id), (h refl, tt))) (λ h. (h refl, tt)) is (said_fixed i b.answer b is)

net_so : ReadsSo said_item (format_of Net)
net_so = record {
  asks = λ id a. said_net_encoded id (want_of nets a);
  given = λ i q r own h fits. net_given_so i q r own h fits;
  fixed = λ i own. net_fixed_so i own (net_fixed i) refl;
  acked = λ i. said_acked i (net_ack i) refl;
}

pub reads_so : (kind : DeviceKind) → ReadsSo said_item (format_of kind)
reads_so Beat = bare_so (service_codec Beat) services (λ id a. said_bare _) (λ i r. said_bare _) (λ i. said_bare _)
reads_so Down = bare_so (service_codec Down) services (λ id a. said_bare _) (λ i r. said_bare _) (λ i. said_bare _)
reads_so Disk = disk_so
reads_so Net = net_so
reads_so Kvp = bare_so pair_codec pairs (λ id a. said_bare _) (λ i r. said_bare _) (λ i. said_bare _)
