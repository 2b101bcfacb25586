-- Items of a disk's channel are read as they were meant, whatever stood in their pages before.
use Rattle.std.proofs.Common.{◌≡◌, ℕ, ◌+◌, ◌-◌, ◌*◌, ◌^◌, ◌<◌, ◌≤◌, ◌==◌, ◌⊎◌, ⊎_elim, inl, inr, Bool, true, false, cond, ◌&&◌, List, [], ◌∷◌, ◌++◌, length, take, drop, replicate, slice_range, Option, Some, None, Ok, Err, refl, sym, ap, subst, ◌∙◌, lit<, lit≤, arith, length-append}
use Rattle.std.specs.Prelude.{nat_le, nat_lt, not}
use Rattle.std.proofs.lemmas.Bool.Decides.{nat_tests}
use Rattle.std.proofs.lemmas.List.{length-replicate, drop_at, drop-drop, length-take-le}
use Rattle.wire_table.specs.Little.{bytes_of, number_of}
use Rattle.wire_table.proofs.LittleLemmas.{length-bytes_of}
use Rattle.vm_page.specs.Words.{words_for, words_of, bytes_in}
use Rattle.vm_page.proofs.WordLaws.{length-words_from, length-bytes_in}
use Rattle.pkt_desc.specs.Packets.{id_of, kind_of}
use Rattle.page_kept.specs.declared.item.Item.{Item}
use Rattle.page_kept.specs.Items.{item_of}
use Rattle.scsi_disk.specs.Commands.{command_of}
use Rattle.scsi_disk.specs.DiskModel.{most_back}
use Rattle.scsi_disk.specs.declared.command.Command.{Command}
use Rattle.scsi_disk.specs.declared.command.Command.TheVariants.{TestUnitReady, Inquiry, ReadCapacity, Read as ReadBlocks, Write, SynchronizeCache, LongCapacity}
use Rattle.scsi_disk.specs.declared.request.DiskRequest.{DiskRequest}
use Rattle.scsi_disk.specs.declared.reply.DiskReply.{DiskReply}
use Rattle.scsi_disk.specs.declared.reply.DiskReply.TheVariants.{Good, Check}
use Rattle.stor_proto.specs.Fields.{number_at, with_number, with_bytes}
use Rattle.stor_proto.specs.Packets.{IsAllowed}
use Rattle.stor_proto.specs.Operations.{operation_of}
use Rattle.stor_proto.specs.Opening.{is_version, status_of, with_properties, rest_of, answer_of}
use Rattle.stor_proto.specs.Srbs.{cdb_in, data_for, data_in, names_disk, request_of, moved_by, sense_of, reply_of, stop_of, ask_of, cdb_length}
use Rattle.stor_proto.specs.declared.operation.Operation.{Operation}
use Rattle.stor_proto.specs.declared.operation.Operation.TheVariants.{CompleteIo, RemoveDevice, ExecuteSrb, BeginInitialization, EndInitialization, QueryProtocolVersion, QueryProperties, EnumerateBus, CreateSubChannels}
use Rattle.stor_proto.specs.declared.vstor.Vstor.{Vstor}
use Rattle.stor_proto.proofs.FieldLaws.{number_at-same, number_at-other, number_at-before, part_again}
use Rattle.device_packets.specs.Said.{vstor_of, has_vstor, gives_bytes, came_with, reads_into, came_in, words_said, said_item}
use Rattle.disk_format.specs.Disks.{sent_packet, done_packet, stopped_by, back_of, disk_fits}
use Rattle.disk_format.specs.PageDisks.{page_waits, is_empty, lacks_page, with_room, srb_asked, page_read, refused_vstor, silent_answer, page_fixed_vstor, page_fixed, page_answer, bytes_of_ask, words_asked, direct_packet, page_ask, is_direct}
use Rattle.device_packets.proofs.ByteLaws.{zero_bytes, with_number_bytes}
use Rattle.wire_table.proofs.RowLaws.{IsBytes}
use Rattle.device_packets.proofs.PacketLaws.{right, by_test}
use Rattle.device_packets.specs.Packets.{is_inband}
use Rattle.disk_format.proofs.VstorLaws.{Formed, number_put}
use Rattle.disk_format.proofs.DoneLaws.{back_fits, cdb_read}
use Rattle.disk_format.proofs.SpanLaws.{direct_kind}
use Rattle.disk_format.proofs.PageDiskLaws.{sent_kind, Fits, ask_formed, ask_allowed, ask_none, ask_some, direct_holds}
use Rattle.disk_format.proofs.PageDoneLaws.{page_asks, waits_formed, Completes, done_completes, answer_completes}
use Rattle.device_packets.proofs.SaidLaws.{said_done, said_direct, said_sent, item_is}

-- fields of an srb behind those that were put

drop_put : (at w v : ℕ) (b : List ℕ) (n : ℕ) → at + w ≤ length b → at + w ≤ n → drop n (with_number at w v b) ≡ drop n b
unfolding with_number
drop_put at w v b n within behind =
    let front = take at b ++ bytes_of w v in
    let len : length front ≡ at + w = omega (arith, length-append (take at b) (bytes_of w v), length-take-le at b (omega (arith, within)), length-bytes_of w v) in
    let e : n ≡ (at + w) + (n - (at + w)) = omega (arith, behind) in
    let cut : drop (at + w) (front ++ drop (at + w) b) ≡ drop (at + w) b = drop_at front (drop (at + w) b) (at + w) len in
    ap (λ m. drop m (front ++ drop (at + w) b)) e
    ∙ (sym (drop-drop (n - (at + w)) (at + w) (front ++ drop (at + w) b)) ∙ (ap (drop (n - (at + w))) cut ∙ drop-drop (n - (at + w)) (at + w) b))
    ∙ ap (λ m. drop m b) (sym e)

-- the bytes that came with a reply: those that it gives
module _ (v : Vstor) (len : length v.rest ≡ 52) (bytes : List ℕ) where
  good_cdb : cdb_in (reply_of v (Good bytes)) ≡ cdb_in v
  good_cdb =
      let m = moved_by (command_of (cdb_in v)) (length bytes) in
      let r1 = with_number 2 1 1 v.rest in
      let r2 = with_number 3 1 0 r1 in
      let l1 = number_put 2 1 1 v.rest (lit≤ tt) len in
      let l2 = number_put 3 1 0 r1 (lit≤ tt) l1 in
      ap (take 16) (drop_put 12 4 m r2 16 (omega (arith, l2)) (lit≤ tt) ∙ drop_put 3 1 0 r1 16 (omega (arith, l1)) (lit≤ tt) ∙ drop_put 2 1 1 v.rest 16 (omega (arith, len)) (lit≤ tt))

  good_status : number_at 2 1 (reply_of v (Good bytes)).rest ≡ 1
  good_status =
      let m = moved_by (command_of (cdb_in v)) (length bytes) in
      let r1 = with_number 2 1 1 v.rest in
      let r2 = with_number 3 1 0 r1 in
      let l1 = number_put 2 1 1 v.rest (lit≤ tt) len in
      let l2 = number_put 3 1 0 r1 (lit≤ tt) l1 in
      number_at-other 12 4 m r2 (omega (arith, l2)) 2 1 (inl (omega arith)) ∙ number_at-other 3 1 0 r1 (omega (arith, l1)) 2 1 (inl (omega arith)) ∙ number_at-same 2 1 1 v.rest (omega (arith, len)) (omega arith)

  good_moved : moved_by (command_of (cdb_in v)) (length bytes) < 256 ^ 4 → number_at 12 4 (reply_of v (Good bytes)).rest ≡ moved_by (command_of (cdb_in v)) (length bytes)
  good_moved fits =
      let m = moved_by (command_of (cdb_in v)) (length bytes) in
      let r1 = with_number 2 1 1 v.rest in
      let r2 = with_number 3 1 0 r1 in
      let l1 = number_put 2 1 1 v.rest (lit≤ tt) len in
      let l2 = number_put 3 1 0 r1 (lit≤ tt) l1 in
      number_at-same 12 4 m r2 (omega (arith, l2)) fits

  came_as : (k : Option Command) → command_of (cdb_in v) ≡ k → moved_by k (length bytes) < 256 ^ 4 → came_with (reply_of v (Good bytes)) ≡ cond (data_in k == 1) (moved_by k (length bytes)) 0
  unfolding came_with gives_bytes
  came_as k is fits =
      let w = reply_of v (Good bytes) in
      let small : moved_by (command_of (cdb_in v)) (length bytes) < 256 ^ 4 = subst (λ c. moved_by c (length bytes) < 256 ^ 4) (sym is) fits in
      ap (λ s. cond ((s == 1) && (data_in (command_of (cdb_in w)) == 1)) (number_at 12 4 w.rest) 0) good_status
      ∙ ap (λ c. cond (data_in (command_of c) == 1) (number_at 12 4 w.rest) 0) good_cdb
      ∙ ap (λ m. cond (data_in (command_of (cdb_in v)) == 1) m 0) (good_moved small)
      ∙ ap (λ c. cond (data_in c == 1) (moved_by c (length bytes)) 0) is

moved_small : (k : Option Command) (n : ℕ) → n ≤ 4096 → moved_by k n < 256 ^ 4
moved_small None n le = omega arith
moved_small (Some TestUnitReady) n le = omega arith
moved_small (Some (Inquiry s a)) n le = omega arith
moved_small (Some ReadCapacity) n le = omega arith
moved_small (Some (ReadBlocks l k)) n le = omega arith
moved_small (Some (Write l k)) n le = omega arith
moved_small (Some SynchronizeCache) n le = omega arith
moved_small (Some (LongCapacity b a)) n le = omega arith

all_came : (k : Option Command) (n : ℕ) → n ≤ most_back k → cond (data_in k == 1) (moved_by k n) 0 ≡ n
all_came None n le = omega (arith, le)
all_came (Some TestUnitReady) n le = omega (arith, le)
all_came (Some (Inquiry s a)) n le = refl
all_came (Some ReadCapacity) n le = refl
all_came (Some (ReadBlocks l k)) n le = refl
all_came (Some (Write l k)) n le = omega (arith, le)
all_came (Some SynchronizeCache) n le = omega (arith, le)
all_came (Some (LongCapacity b a)) n le = refl

pub none_came : (v : Vstor) (s : ℕ) → number_at 2 1 v.rest ≡ s → (s == 1) ≡ false → came_with v ≡ 0
unfolding came_with
none_came v s is other =
    let test : (number_at 2 1 v.rest == 1) ≡ false = ap (λ n. n == 1) is ∙ other in
    off (v.operation == 1) (number_at 2 1 v.rest == 1) (gives_bytes v) (number_at 12 4 v.rest) test
  where
    off : (a b c : Bool) (n : ℕ) → b ≡ false → cond (a && (b && c)) n 0 ≡ 0
    off true true c n h = cc
    off true false c n h = refl
    off false b c n h = refl

check_status : (v : Vstor) (key asc ascq : ℕ) → length v.rest ≡ 52 → number_at 2 1 (reply_of v (Check key asc ascq)).rest ≡ 0x84
check_status v key asc ascq len =
    let r1 = with_number 2 1 0x84 v.rest in
    let r2 = with_number 3 1 2 r1 in
    let r3 = with_number 9 1 18 r2 in
    let r4 = with_number 12 4 0 r3 in
    let l1 = number_put 2 1 0x84 v.rest (lit≤ tt) len in
    let l2 = number_put 3 1 2 r1 (lit≤ tt) l1 in
    let l3 = number_put 9 1 18 r2 (lit≤ tt) l2 in
    let l4 = number_put 12 4 0 r3 (lit≤ tt) l3 in
    number_at-before 16 (sense_of key asc ascq) r4 (omega (arith, l4)) 2 1 (omega arith)
    ∙ number_at-other 12 4 0 r3 (omega (arith, l3)) 2 1 (inl (omega arith))
    ∙ number_at-other 9 1 18 r2 (omega (arith, l2)) 2 1 (inl (omega arith))
    ∙ number_at-other 3 1 2 r1 (omega (arith, l1)) 2 1 (inl (omega arith))
    ∙ number_at-same 2 1 0x84 v.rest (omega (arith, len)) (omega arith)

reply_came : (v : Vstor) (came : List ℕ) (q : DiskRequest) (r : DiskReply) → length v.rest ≡ 52 → request_of v came ≡ Ok q → most_back (command_of q.cdb) ≤ 4096 → disk_fits q r ≡ true → came_with (reply_of v r) ≡ length (back_of r)
reply_came v came q (Good bytes) len is few h =
    let fits = (back_fits q (Good bytes) h).0 in
    let k = command_of q.cdb in
    came_as v len bytes k (ap command_of (sym (cdb_read v came q is))) (moved_small k (length bytes) (omega (arith, fits, few))) ∙ all_came k (length bytes) fits
reply_came v came q (Check key asc ascq) len is few h = none_came (reply_of v (Check key asc ascq)) 0x84 (check_status v key asc ascq len) refl

-- items

came_is : (p : List ℕ) (w : Vstor) → Completes p w → came_in p ≡ came_with w
unfolding came_in
came_is p w done = rw done.has (ap came_with done.vstor)

-- an answer is read as far as bytes came, whatever stands behind them
pub said_answer : (i : Item) (q : DiskRequest) (r : DiskReply) (j : Item) → page_read i ≡ Some q → disk_fits q r ≡ true → j.packet ≡ (page_answer i r).packet → take (length (words_of (back_of r))) j.words ≡ words_of (back_of r) → said_item j ≡ page_answer i r
unfolding page_answer
said_answer i q r j h fits is front =
    let read = page_asks i q h in
    let v = vstor_of i.packet in
    let w = reply_of v r in
    let p = done_packet (id_of i.packet) w [] in
    let done = answer_completes i q r h fits in
    let came : came_in p ≡ length (back_of r) = came_is p w done ∙ reply_came v (bytes_in i.words) q r (waits_formed i read.waits).len read.request (omega (arith, read.few)) fits in
    let long : words_for (came_in p) ≡ length (words_of (back_of r)) = ap words_for came ∙ sym (length-words_from (words_for (length (back_of r))) (back_of r)) in
    item_is j p (words_of (back_of r)) is (said_done p j.words done.kind ∙ ap (λ n. take n j.words) long ∙ front)

-- what goes back with nothing in a page
pub record IsSilent (w : Vstor) : Type 0 where
  pub form : Formed w
  pub allowed : IsAllowed w
  pub none : came_with w ≡ 0

record IsStop (s : ℕ) : Type 0 where
  small : s < 256
  other : (s == 1) ≡ false

stop_is : (lacks a b : Bool) (q : DiskRequest) → IsStop (cond lacks 4 (stopped_by (cond a (Err (record { status = 0x20 })) (cond b (Err (record { status = 4 })) (Ok q)))))
stop_is true a b q = record { small = lit< tt; other = refl }
stop_is false true b q = record { small = lit< tt; other = refl }
stop_is false false true q = record { small = lit< tt; other = refl }
stop_is false false false q = record { small = lit< tt; other = refl }

silent_stop : (v : Vstor) (s : ℕ) → Formed v → IsStop s → IsSilent (stop_of v s)
silent_stop v s f stop = record {
  form = record { operation = omega arith; flags = f.flags; status = f.status; len = number_put 2 1 s v.rest (lit≤ tt) f.len; bytes = with_number_bytes 2 1 s v.rest f.bytes };
  allowed = (refl, λ other. absurd (other refl));
  none = none_came (stop_of v s) s (number_at-same 2 1 s v.rest (omega (arith, f.len)) (omega (arith, stop.small))) stop.other;
}

bit_small : (b : Bool) → cond b 0 1 < 256 ^ 4
bit_small true = omega arith
bit_small false = omega arith

small_status : (o : Option Operation) (n : ℕ) → status_of o n < 256 ^ 4
small_status None n = omega arith
small_status (Some CompleteIo) n = omega arith
small_status (Some RemoveDevice) n = omega arith
small_status (Some ExecuteSrb) n = omega arith
small_status (Some BeginInitialization) n = omega arith
small_status (Some EndInitialization) n = omega arith
small_status (Some QueryProtocolVersion) n = bit_small (is_version n)
small_status (Some QueryProperties) n = omega arith
small_status (Some EnumerateBus) n = omega arith
small_status (Some CreateSubChannels) n = bit_small (nat_le n 3)

properties_formed : (rest : List ℕ) → length rest ≡ 52 → IsBytes rest → (length (with_properties rest) ≡ 52) × IsBytes (with_properties rest)
properties_formed rest len bytes =
    let r1 = with_number 4 2 3 rest in
    let r2 = with_number 8 4 1 r1 in
    let l1 = number_put 4 2 3 rest (lit≤ tt) len in
    let l2 = number_put 8 4 1 r1 (lit≤ tt) l1 in
    (number_put 12 4 4096 r2 (lit≤ tt) l2, with_number_bytes 12 4 4096 r2 (with_number_bytes 8 4 1 r1 (with_number_bytes 4 2 3 rest bytes)))

rest_formed : (o : Option Operation) (rest : List ℕ) → length rest ≡ 52 → IsBytes rest → (length (rest_of o rest) ≡ 52) × IsBytes (rest_of o rest)
rest_formed None rest len bytes = (len, bytes)
rest_formed (Some CompleteIo) rest len bytes = (len, bytes)
rest_formed (Some RemoveDevice) rest len bytes = (len, bytes)
rest_formed (Some ExecuteSrb) rest len bytes = (len, bytes)
rest_formed (Some BeginInitialization) rest len bytes = (len, bytes)
rest_formed (Some EndInitialization) rest len bytes = (len, bytes)
rest_formed (Some QueryProtocolVersion) rest len bytes = (len, bytes)
rest_formed (Some QueryProperties) rest len bytes = properties_formed rest len bytes
rest_formed (Some EnumerateBus) rest len bytes = (len, bytes)
rest_formed (Some CreateSubChannels) rest len bytes = (len, bytes)

answer_is_formed : (v : Vstor) → Formed v → Formed (answer_of v)
answer_is_formed v f =
    let rest = rest_formed (operation_of v.operation) v.rest f.len f.bytes in
    record { operation = omega arith; flags = f.flags; status = small_status (operation_of v.operation) (number_at 0 2 v.rest); len = rest.0; bytes = rest.1 }

silent_refused : IsSilent refused_vstor
unfolding came_with number_of
silent_refused = record {
  form = record { operation = omega arith; flags = omega arith; status = omega arith; len = refl; bytes = zero_bytes 52 };
  allowed = (refl, λ other. absurd (other refl));
  none = refl;
}

silent_other : (v : Vstor) → Formed v → IsSilent (silent_answer (answer_of v))
silent_other v f =
    let w = answer_of v in
    by_test (came_with w == 0)
    (λ none. subst IsSilent (sym (ap (λ b. cond b w refused_vstor) none)) (record { form = answer_is_formed v f; allowed = (refl, λ other. absurd (other refl)); none = grind (arith, nat_tests, none) }))
    (λ some. subst IsSilent (sym (ap (λ b. cond b w refused_vstor) some)) silent_refused)

pub silent_fixed : (v : Vstor) (lacks : Bool) (came : List ℕ) → Formed v → IsSilent (page_fixed_vstor v lacks came)
unfolding page_fixed_vstor
silent_fixed v lacks came f =
    let stop = stop_of v (cond lacks 4 (stopped_by (request_of v came))) in
    let other = silent_answer (answer_of v) in
    by_test (v.operation == 3)
    (λ srb. subst IsSilent (sym (ap (λ b. cond b stop other) srb))
    (silent_stop v (cond lacks 4 (stopped_by (request_of v came))) f (stop_is lacks (not (names_disk v)) (nat_lt 16 (number_at 8 1 v.rest)) (record { cdb = cdb_in v; out = data_for (command_of (cdb_in v)) (number_at 12 4 v.rest) came }))))
    (λ no. subst IsSilent (sym (ap (λ b. cond b stop other) no)) (silent_other v f))

-- a fixed answer is read without page words, whatever comes back with it
pub said_fixed : (i j : Item) → page_waits i ≡ true → j.packet ≡ (page_fixed i).packet → said_item j ≡ page_fixed i
unfolding page_fixed
said_fixed i j waits is =
    let w = page_fixed_vstor (vstor_of i.packet) (lacks_page i) (bytes_in i.words) in
    let p = done_packet (id_of i.packet) w [] in
    let silent = silent_fixed (vstor_of i.packet) (lacks_page i) (bytes_in i.words) (waits_formed i waits) in
    let done = done_completes (id_of i.packet) w silent.form silent.allowed in
    let none : words_for (came_in p) ≡ 0 = ap words_for (came_is p w done ∙ silent.none) in
    item_is j p [] is (said_done p j.words done.kind ∙ ap (λ n. take n j.words) none)

none_left : (ws : List ℕ) → length ws ≡ 0 → ws ≡ []
none_left [] e = refl
none_left (w ∷ ws) e = absurd (omega (arith, e))

-- requests

ask_cdb : (q : DiskRequest) → Fits q → cdb_in (ask_of q) ≡ q.cdb
ask_cdb q fits =
    let k = command_of q.cdb in
    let a1 = with_number 0 2 52 (replicate 52 0) in
    let a2 = with_number 8 1 (cdb_length q.cdb) a1 in
    let a3 = with_number 9 1 20 a2 in
    let a4 = with_number 10 1 (data_in k) a3 in
    let a5 = with_number 12 4 (bytes_of_ask q) a4 in
    let l1 = number_put 0 2 52 (replicate 52 0) (lit≤ tt) refl in
    let l2 = number_put 8 1 (cdb_length q.cdb) a1 (lit≤ tt) l1 in
    let l3 = number_put 9 1 20 a2 (lit≤ tt) l2 in
    let l4 = number_put 10 1 (data_in k) a3 (lit≤ tt) l3 in
    let l5 = number_put 12 4 (bytes_of_ask q) a4 (lit≤ tt) l4 in
    ap (λ n. slice_range (with_bytes 16 q.cdb a5) 16 (16 + n)) (sym fits.len) ∙ part_again 16 q.cdb a5 (omega (arith, l5, fits.len))

direct_reads : (id : ℕ) (q : DiskRequest) → Fits q → reads_into (direct_packet id (bytes_of_ask q) (ask_of q)) ≡ (data_in (command_of q.cdb) == 1)
unfolding reads_into gives_bytes
direct_reads id q fits =
    let holds = direct_holds id (bytes_of_ask q) (ask_of q) (ask_formed q fits) (ask_allowed q) in
    rw holds.has (ap (λ v. data_in (command_of (cdb_in v)) == 1) holds.vstor ∙ ap (λ c. data_in (command_of c) == 1) (ask_cdb q fits))

ask_direct : (id : ℕ) (q : DiskRequest) (j : Item) → Fits q → (bytes_of_ask q == 0) ≡ false → j.packet ≡ direct_packet id (bytes_of_ask q) (ask_of q) → length j.words ≡ words_for (bytes_of_ask q)
    → ((data_in (command_of q.cdb) == 1) ≡ false → j.words ≡ words_of q.out) → said_item j ≡ item_of (direct_packet id (bytes_of_ask q) (ask_of q)) (words_asked q)
ask_direct id q j fits some is long own =
    let n = bytes_of_ask q in
    let p = direct_packet id n (ask_of q) in
    let kind = direct_kind id n (ask_of q) in
    let reads = direct_reads id q fits in
    item_is j p (words_asked q) is (said_direct p j.words kind ∙ ap (λ b. cond b (replicate (length j.words) 0) j.words) reads ∙ by_test (data_in (command_of q.cdb) == 1)
    (λ gives. rw gives (ap (λ m. replicate m 0) long))
    (λ takes. rw takes (own takes)))

-- one that reads into its page is read with 0 there, and one of a write with its data
pub said_ask : (id : ℕ) (q : DiskRequest) (j : Item) → Fits q → j.packet ≡ (page_ask id q).packet → length j.words ≡ words_for (bytes_of_ask q) → ((bytes_of_ask q == 0) ≡ false → (data_in (command_of q.cdb) == 1) ≡ false → j.words ≡ words_of q.out) → said_item j ≡ page_ask id q
said_ask id q j fits is long own = by_test (bytes_of_ask q == 0)
    (λ none.
    let p = sent_packet id (ask_of q) [] in
    let zero_long : length j.words ≡ 0 = grind (arith, nat_tests, none, long) in
    item_is j p [] (is ∙ ap (λ (x : Item). x.packet) (ask_none id q none)) (said_sent p j.words (sent_kind id (ask_of q)) ∙ none_left j.words zero_long) ∙ sym (ask_none id q none))
    (λ some. ask_direct id q j fits some (is ∙ ap (λ (x : Item). x.packet) (ask_some id q some)) long (own some) ∙ sym (ask_some id q some))

-- a request that was read is read as it came

pub waits_kind : (i : Item) → page_waits i ≡ true → (kind_of i.packet ≡ 6) ⊎ (kind_of i.packet ≡ 9)
unfolding page_waits is_inband is_direct
waits_kind i h = by_test (kind_of i.packet == 6)
    (λ six. inl (grind (arith, nat_tests, six)))
    (λ not_six. by_test (kind_of i.packet == 9)
    (λ nine. inr (grind (arith, nat_tests, nine)))
    (λ not_nine.
    let none : page_waits i ≡ false = rw (not_six, not_nine) refl in
    cc))

same_for : (k : Option Command) (n : ℕ) (xs ys : List ℕ) → (data_in k == 1) ≡ true → data_for k n xs ≡ data_for k n ys
same_for None n xs ys gives = refl
same_for (Some TestUnitReady) n xs ys gives = refl
same_for (Some (Inquiry s a)) n xs ys gives = refl
same_for (Some ReadCapacity) n xs ys gives = refl
same_for (Some (ReadBlocks l k)) n xs ys gives = refl
same_for (Some (Write l k)) n xs ys gives = cc
same_for (Some SynchronizeCache) n xs ys gives = refl
same_for (Some (LongCapacity b a)) n xs ys gives = refl

pub same_request : (v : Vstor) (xs ys : List ℕ) → gives_bytes v ≡ true → request_of v xs ≡ request_of v ys
unfolding gives_bytes
same_request v xs ys gives =
    ap (λ d. cond (not (names_disk v)) (Err (record { status = 0x20 })) (cond (nat_lt 16 (number_at 8 1 v.rest)) (Err (record { status = 4 })) (Ok (record { cdb = cdb_in v; out = d }))))
    (same_for (command_of (cdb_in v)) (number_at 12 4 v.rest) xs ys gives)

empty_zeros : (ws : List ℕ) → is_empty (replicate (length ws) 0) ≡ is_empty ws
empty_zeros [] = refl
empty_zeros (w ∷ ws) = refl

same_asked : (v : Vstor) (lacks : Bool) (xs ys : List ℕ) → gives_bytes v ≡ true → length xs ≡ length ys → srb_asked v lacks xs ≡ srb_asked v lacks ys
unfolding srb_asked
same_asked v lacks xs ys gives len =
    ap (λ r. cond (v.operation == 3) (cond lacks None (with_room (length xs) r)) None) (same_request v xs ys gives) ∙ ap (λ n. cond (v.operation == 3) (cond lacks None (with_room n (request_of v ys))) None) len

pub same_fixed : (v : Vstor) (lacks : Bool) (xs ys : List ℕ) → gives_bytes v ≡ true → page_fixed_vstor v lacks xs ≡ page_fixed_vstor v lacks ys
unfolding page_fixed_vstor
same_fixed v lacks xs ys gives = ap (λ r. cond (v.operation == 3) (stop_of v (cond lacks 4 (stopped_by r))) (silent_answer (answer_of v))) (same_request v xs ys gives)

-- what is read of an item, and what is fixed for it, is the same for its words as they came
pub record IsReadSo (i : Item) : Type 0 where
  pub waits : page_waits (said_item i) ≡ page_waits i
  pub read : page_read (said_item i) ≡ page_read i
  pub fixed : page_waits i ≡ true → page_fixed (said_item i) ≡ page_fixed i

waits_said : (i : Item) → page_waits (said_item i) ≡ page_waits i
unfolding page_waits
waits_said i = refl

gives_here : (p : List ℕ) → reads_into p ≡ true → gives_bytes (vstor_of p) ≡ true
unfolding reads_into
gives_here p h = right (has_vstor p) (gives_bytes (vstor_of p)) h

lacks_zeros : (p ws : List ℕ) → lacks_page (item_of p (replicate (length ws) 0)) ≡ lacks_page (item_of p ws)
unfolding lacks_page
lacks_zeros p ws = ap (λ b. (kind_of p == 9) && b) (empty_zeros ws)

waits_alone : (p xs ys : List ℕ) → page_waits (item_of p xs) ≡ page_waits (item_of p ys)
unfolding page_waits
waits_alone p xs ys = refl

read_zeros : (p ws : List ℕ) → reads_into p ≡ true → page_read (item_of p (replicate (length ws) 0)) ≡ page_read (item_of p ws)
unfolding page_read
read_zeros p ws reads =
    let zeros = replicate (length ws) 0 in
    let len : length (bytes_in zeros) ≡ length (bytes_in ws) = length-bytes_in zeros ∙ ap (λ n. 8 * n) (length-replicate {A = ℕ} (length ws) 0) ∙ sym (length-bytes_in ws) in
    let waits : page_waits (item_of p zeros) ≡ page_waits (item_of p ws) = waits_alone p zeros ws in
    ap (λ b. cond b (srb_asked (vstor_of p) (lacks_page (item_of p zeros)) (bytes_in zeros)) None) waits
    ∙ ap (λ b. cond (page_waits (item_of p ws)) (srb_asked (vstor_of p) b (bytes_in zeros)) None) (lacks_zeros p ws)
    ∙ ap (λ o. cond (page_waits (item_of p ws)) o None) (same_asked (vstor_of p) (lacks_page (item_of p ws)) (bytes_in zeros) (bytes_in ws) (gives_here p reads) len)

fixed_zeros : (p ws : List ℕ) → reads_into p ≡ true → page_fixed (item_of p (replicate (length ws) 0)) ≡ page_fixed (item_of p ws)
unfolding page_fixed
fixed_zeros p ws reads =
    let zeros = replicate (length ws) 0 in
    ap (λ b. item_of (done_packet (id_of p) (page_fixed_vstor (vstor_of p) b (bytes_in zeros)) []) []) (lacks_zeros p ws)
    ∙ ap (λ v. item_of (done_packet (id_of p) v []) []) (same_fixed (vstor_of p) (lacks_page (item_of p ws)) (bytes_in zeros) (bytes_in ws) (gives_here p reads))

unread : (i : Item) → page_waits i ≡ false → page_read i ≡ None
unfolding page_read
unread i not = rw not refl

read_so : {X : Type 0} (f : Item → X) (i : Item) → page_waits i ≡ true → ((p ws : List ℕ) → reads_into p ≡ true → f (item_of p (replicate (length ws) 0)) ≡ f (item_of p ws)) → f (said_item i) ≡ f i
read_so f i waits zeros = ⊎_elim
    (λ six. ap (λ ws. f (item_of i.packet ws)) (said_sent i.packet i.words six))
    (λ nine. by_test (reads_into i.packet)
    (λ reads. ap (λ ws. f (item_of i.packet ws)) (said_direct i.packet i.words nine ∙ ap (λ b. cond b (replicate (length i.words) 0) i.words) reads) ∙ zeros i.packet i.words reads)
    (λ takes. ap (λ ws. f (item_of i.packet ws)) (said_direct i.packet i.words nine ∙ ap (λ b. cond b (replicate (length i.words) 0) i.words) takes)))
    (waits_kind i waits)

pub is_read_so : (i : Item) → IsReadSo i
is_read_so i = record {
  waits = waits_said i;
  read = by_test (page_waits i)
      (λ waits. read_so page_read i waits read_zeros)
      (λ not. unread (said_item i) (waits_said i ∙ not) ∙ sym (unread i not));
  fixed = λ waits. read_so page_fixed i waits fixed_zeros;
}

pub read_said : (i : Item) → page_read (said_item i) ≡ page_read i
read_said i = (is_read_so i).read

-- what a completion says hangs on its words as far as bytes came
pub result_words : (p ws : List ℕ) → kind_of p ≡ 11 → words_said p ws ≡ take (words_for (came_in p)) ws
result_words = said_done
