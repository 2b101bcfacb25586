-- The disk's reply is read in the answer and the page words that carry it, and all items of a disk's channel are read as they were meant.
use Rattle.std.proofs.Common.{◌≡◌, ℕ, ◌-◌, ◌*◌, ◌≤◌, ◌==◌, Bool, true, false, cond, ◌&&◌, List, [], ◌∷◌, ◌++◌, length, min, replicate, Option, Some, None, Result, Ok, Err, refl, sym, ap, subst, ◌∙◌, lit<, lit≤, arith, length-append}
use Rattle.std.specs.Prelude.{nat_le}
use Rattle.std.proofs.lemmas.Bool.Decides.{nat_tests}
use Rattle.wire_table.proofs.RowLaws.{IsBytes}
use Rattle.vm_page.specs.Words.{words_for, words_of, words_from, bytes_in}
use Rattle.vm_page.proofs.WordLaws.{bytes_in-words_from}
use Rattle.pkt_desc.specs.Packets.{id_of, kind_of}
use Rattle.page_kept.specs.declared.item.Item.{Item}
use Rattle.scsi_disk.specs.Commands.{command_of}
use Rattle.scsi_disk.specs.DiskModel.{most_back}
use Rattle.scsi_disk.specs.declared.command.Command.{Command}
use Rattle.scsi_disk.specs.declared.command.Command.TheVariants.{TestUnitReady, Inquiry, ReadCapacity, Read as ReadBlocks, Write, SynchronizeCache, LongCapacity}
use Rattle.scsi_disk.specs.declared.request.DiskRequest.{DiskRequest}
use Rattle.scsi_disk.specs.declared.reply.DiskReply.{DiskReply}
use Rattle.scsi_disk.specs.declared.reply.DiskReply.TheVariants.{Good, Check}
use Rattle.stor_proto.specs.Packets.{vstor_bytes, IsAllowed}
use Rattle.stor_proto.specs.Srbs.{cdb_in, request_of, moved_by, reply_of, done_of}
use Rattle.stor_proto.specs.declared.vstor.Vstor.{Vstor}
use Rattle.stor_proto.specs.declared.stop.SrbStop.{SrbStop}
use Rattle.stor_proto.proofs.SrbLaws.{good_read_back, good_read_more, check_read_back}
use Rattle.device_packets.specs.Packets.{is_of, is_completion}
use Rattle.device_packets.specs.Said.{vstor_of, has_vstor}
use Rattle.disk_format.specs.Disks.{done_packet, back_of, disk_fits}
use Rattle.disk_format.specs.PageDisks.{page_waits, lacks_page, with_room, srb_asked, page_read, page_answer, page_result}
use Rattle.device_packets.proofs.PacketLaws.{is_of_kept, kind_plain, right, cond_some}
use Rattle.disk_format.proofs.VstorLaws.{Formed, formed, in_form, read_again, length-vstor}
use Rattle.disk_format.proofs.DiskLaws.{none_are_bytes}
use Rattle.disk_format.proofs.DoneLaws.{vstor_form, cdb_read, back_fits, good_fits, reply_formed}

-- what it means that a packet asks the disk
pub record PageAsks (i : Item) (q : DiskRequest) : Type 0 where
  pub waits : page_waits i ≡ true
  pub srb : (vstor_of i.packet).operation ≡ 3
  pub page : lacks_page i ≡ false
  pub request : request_of (vstor_of i.packet) (bytes_in i.words) ≡ Ok q
  pub few : most_back (command_of q.cdb) ≤ min (length (bytes_in i.words)) 4096

room_some : (n : ℕ) (r : Result DiskRequest SrbStop) (q : DiskRequest) → with_room n r ≡ Some q → (r ≡ Ok q) × (most_back (command_of q.cdb) ≤ min n 4096)
room_some n (Err stop) q h = cc
room_some n (Ok z) q h =
    let two = cond_some (nat_le (most_back (command_of z.cdb)) (min n 4096)) (Some z) q h in
    let some = two.1 in
    let same : z ≡ q = cc in
    let few : most_back (command_of z.cdb) ≤ min n 4096 = grind (arith, nat_tests, two.0) in
    (ap Ok same, subst (λ x. most_back (command_of x.cdb) ≤ min n 4096) same few)

none_some : (b : Bool) (x : Option DiskRequest) (q : DiskRequest) → cond b None x ≡ Some q → (b ≡ false) × (x ≡ Some q)
none_some true x q h = cc
none_some false x q h = (refl, h)

pub page_asks : (i : Item) (q : DiskRequest) → page_read i ≡ Some q → PageAsks i q
unfolding page_read srb_asked
page_asks i q h =
    let v = vstor_of i.packet in
    let came = bytes_in i.words in
    let one = cond_some (page_waits i) (srb_asked v (lacks_page i) came) q h in
    let two = cond_some (v.operation == 3) (cond (lacks_page i) None (with_room (length came) (request_of v came))) q one.1 in
    let three = none_some (lacks_page i) (with_room (length came) (request_of v came)) q two.1 in
    let four = room_some (length came) (request_of v came) q three.1 in
    record { waits = one.0; srb = grind (arith, nat_tests, two.0); page = three.0; request = four.0; few = four.1 }

pub waits_has : (i : Item) → page_waits i ≡ true → has_vstor i.packet ≡ true
unfolding page_waits
waits_has i h = right _ (has_vstor i.packet) h

pub waits_formed : (i : Item) → page_waits i ≡ true → Formed (vstor_of i.packet)
waits_formed i h = formed (vstor_of i.packet) (vstor_form i.packet (waits_has i h)).0

-- a completion

-- it is read as it was written
pub record Completes (p : List ℕ) (w : Vstor) : Type 0 where
  pub kind : kind_of p ≡ 11
  pub short : is_of 11 p ≡ true
  pub has : has_vstor p ≡ true
  pub vstor : vstor_of p ≡ w

pub done_kind : (id : ℕ) (w : Vstor) → kind_of (done_packet id w []) ≡ 11
unfolding done_packet
done_kind id w = kind_plain 11 id 0 (vstor_bytes w ++ []) (lit< tt)

pub done_completes : (id : ℕ) (w : Vstor) → Formed w → IsAllowed w → Completes (done_packet id w []) w
unfolding done_packet
done_completes id w f allowed =
    let bs = vstor_bytes w ++ [] in
    let again = read_again 11 id 0 w [] (lit< tt) (in_form w f) allowed none_are_bytes in
    let len : length bs ≡ 64 = length-append (vstor_bytes w) [] ∙ omega (arith, length-vstor w (in_form w f)) in
    record {
      kind = kind_plain 11 id 0 bs (lit< tt);
      short = is_of_kept 11 id 0 bs (lit< tt) (omega (arith, len));
      has = again.has;
      vstor = again.vstor;
    }

-- the reply

moved_all : (k : Option Command) (n : ℕ) → 1 ≤ n → n ≤ most_back k → moved_by k n ≡ n
moved_all None n some le = refl
moved_all (Some TestUnitReady) n some le = refl
moved_all (Some (Inquiry s a)) n some le = refl
moved_all (Some ReadCapacity) n some le = refl
moved_all (Some (ReadBlocks l k)) n some le = refl
moved_all (Some (Write l k)) n some le = absurd (omega (arith, some, le))
moved_all (Some SynchronizeCache) n some le = refl
moved_all (Some (LongCapacity b a)) n some le = refl

good_done : (v : Vstor) → length v.rest ≡ 52 → (bytes : List ℕ) (k : Option Command) → IsBytes bytes → command_of (cdb_in v) ≡ k → length bytes ≤ most_back k → length bytes ≤ 4096
    → done_of (reply_of v (Good bytes)) (bytes_in (words_of bytes)) ≡ Some (Good bytes)
unfolding words_from
good_done v len [] k are is le few = good_read_back v len [] (lit≤ tt) (omega arith)
good_done v len (b ∷ bs) k are is le few =
    let bytes = b ∷ bs in
    let zeros = replicate {A = ℕ} (8 * words_for (length bytes) - length bytes) 0 in
    let came : bytes_in (words_of bytes) ≡ bytes ++ zeros = bytes_in-words_from (words_for (length bytes)) bytes are (omega arith) in
    ap (done_of (reply_of v (Good bytes))) came ∙ good_read_more v len bytes zeros few (ap (λ c. moved_by c (length bytes)) is ∙ moved_all k (length bytes) (omega arith) le)

reply_done : (v : Vstor) (came : List ℕ) (q : DiskRequest) (r : DiskReply) → length v.rest ≡ 52 → request_of v came ≡ Ok q → most_back (command_of q.cdb) ≤ 4096 → disk_fits q r ≡ true
    → done_of (reply_of v r) (bytes_in (words_of (back_of r))) ≡ Some r
reply_done v came q (Good bytes) len is few h =
    let fits = good_fits q bytes h in
    good_done v len bytes (command_of q.cdb) (back_fits q (Good bytes) h).1 (ap command_of (sym (cdb_read v came q is))) fits.0 (omega (arith, fits.0, few))
reply_done v came q (Check key asc ascq) len is few h = check_read_back v len key asc ascq (bytes_in (words_of []))

answer_formed : (i : Item) (q : DiskRequest) (r : DiskReply) → page_read i ≡ Some q → disk_fits q r ≡ true → Formed (reply_of (vstor_of i.packet) r)
answer_formed i q r h fits = reply_formed (vstor_of i.packet) q r (waits_formed i (page_asks i q h).waits) fits

pub answer_completes : (i : Item) (q : DiskRequest) (r : DiskReply) → page_read i ≡ Some q → disk_fits q r ≡ true → Completes (done_packet (id_of i.packet) (reply_of (vstor_of i.packet) r) []) (reply_of (vstor_of i.packet) r)
answer_completes i q r h fits = done_completes (id_of i.packet) (reply_of (vstor_of i.packet) r) (answer_formed i q r h fits) (refl, λ other. absurd (other refl))

-- what the answer with the disk's reply says is that reply
pub reply_read : (i : Item) (q : DiskRequest) (r : DiskReply) → page_read i ≡ Some q → disk_fits q r ≡ true → page_result (page_answer i r) ≡ Some r
unfolding page_result page_answer is_completion
reply_read i q r h fits =
    let read = page_asks i q h in
    let v = vstor_of i.packet in
    let w = reply_of v r in
    let a = done_packet (id_of i.packet) w [] in
    let came = bytes_in (words_of (back_of r)) in
    let done = answer_completes i q r h fits in
    let op : ((vstor_of a).operation == 1) ≡ true = ap (λ x. x.operation == 1) done.vstor in
    let test : (is_of 11 a && (has_vstor a && ((vstor_of a).operation == 1))) ≡ true = rw (done.short, done.has, op) refl in
    ap (λ b. cond b (done_of (vstor_of a) came) None) test ∙ ap (λ x. done_of x came) done.vstor
    ∙ reply_done v (bytes_in i.words) q r (waits_formed i read.waits).len read.request (omega (arith, read.few)) fits
