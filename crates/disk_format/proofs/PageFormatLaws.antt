-- The items of a disk's channel keep to the laws of a wire format, and to what data pages ask.
use Rattle.std.proofs.Common.{◌≡◌, ◌≢◌, ℕ, zero, suc, ◌+◌, ◌-◌, ◌≤◌, ◌==◌, ◌⊎◌, ⊎_elim, Bool, true, false, cond, ◌&&◌, List, [], ◌∷◌, length, take, replicate, Some, None, refl, sym, ap, subst, ◌∙◌, arith, Ok, ◌*◌, min, ◌<◌, Option}
use Rattle.std.specs.Prelude.{is_none, nat_le}
use Rattle.std.proofs.lemmas.Bool.Decides.{nat_tests}
use Rattle.std.proofs.lemmas.List.{take_all}
use Rattle.wire_table.specs.Little.{number_of, bytes_of}
use Rattle.vm_page.specs.Words.{words_for, bytes_in, words_of}
use Rattle.vm_page.proofs.WordLaws.{length-words_from, length-bytes_in}
use Rattle.pkt_desc.specs.Packets.{id_of, kind_of}
use Rattle.pkt_desc.specs.Lending.{lent_of}
use Rattle.pkt_desc.specs.declared.loan.Lent.{Lent}
use Rattle.page_kept.specs.declared.item.Item.{Item}
use Rattle.page_kept.specs.Items.{item_of}
use Rattle.scsi_disk.specs.declared.request.DiskRequest.{DiskRequest}
use Rattle.scsi_disk.specs.declared.reply.DiskReply.{DiskReply}
use Rattle.stor_proto.specs.Fields.{with_number}
use Rattle.stor_proto.specs.Opening.{answer_of}
use Rattle.stor_proto.specs.Srbs.{ask_of, data_in, bytes_moved, request_of, stop_of}
use Rattle.channel_model.specs.WireFormat.{Keeps, Back}
use Rattle.channel_model.specs.Amounts.{HasNoMessages}
use Rattle.channel_protocol.specs.Paged.{KeepsPages, LendsOwnPage, words_lent, lent_len, Lays}
use Rattle.scsi_disk.specs.DiskModel.{most_back}
use Rattle.scsi_disk.specs.Commands.{command_of}
use Rattle.scsi_disk.specs.declared.command.Command.{Command}
use Rattle.scsi_disk.specs.declared.command.Command.TheVariants.{TestUnitReady, Inquiry, ReadCapacity, Read as ReadBlocks, Write, SynchronizeCache, LongCapacity}
use Rattle.stor_proto.specs.declared.vstor.Vstor.{Vstor}
use Rattle.device_wire.specs.declared.want.Want.{Want}
use Rattle.device_wire.specs.declared.want.Want.TheVariants.{Step, Request}
use Rattle.device_wire.specs.Codecs.{alone, fixed_back, format_by}
use Rattle.disk_format.specs.Disks.{disk_steps, sent_packet, done_packet, back_of, disk_fits, start_vstor, disk_start, stopped_by}
use Rattle.device_wire.specs.WireModels.{KeepsWire}
use Rattle.device_wire.proofs.CodecLaws.{codec_kept}
use Rattle.disk_format.specs.declared.disk_step.DiskStep.{DiskStep}
use Rattle.disk_format.specs.declared.disk_step.DiskStep.TheVariants.{Begin, Version, Properties, End, SubChannels}
use Rattle.device_packets.specs.Said.{vstor_of, came_with, said_item}
use Rattle.disk_format.specs.PageDisks.{disk_model, page_waits, page_read, page_fixed, page_answer, bytes_of_ask, words_asked, direct_packet, page_ask, fits_page, IsPageAsk, page_encode, page_codec, lacks_page, with_room, srb_asked, refused_vstor, silent_answer, page_fixed_vstor}
use Rattle.device_wire.proofs.CodecLaws.{Sound, codec_keeps, codec_silent}
use Rattle.device_packets.proofs.PacketLaws.{by_test}
use Rattle.disk_format.proofs.DiskLaws.{start_is_formed, start_allowed}
use Rattle.disk_format.proofs.DoneLaws.{back_fits}
use Rattle.disk_format.proofs.SpanLaws.{direct_lends_any, sent_lends}
use Rattle.disk_format.proofs.PageDiskLaws.{ask_read, sent_kind, sent_holds, start_waits, start_read, Fits, fits_from, ask_formed, ask_none, ask_some, waits_always, read_alike, fits_can, asked_long}
use Rattle.disk_format.proofs.PageDoneLaws.{page_asks, done_kind, reply_read}
use Rattle.disk_format.proofs.SaidLaws.{waits_kind, none_came, said_answer, said_fixed, said_ask}
use Rattle.device_packets.proofs.SaidLaws.{said_bare}

-- the laws of a wire format

id_start : (id : ℕ) (k : DiskStep) → id_of (disk_start id k) ≡ id
unfolding disk_start sent_packet
id_start id k = refl

id_asked : (id : ℕ) (q : DiskRequest) (b : Bool) → id_of (cond b (item_of (sent_packet id (ask_of q) []) []) (item_of (direct_packet id (bytes_of_ask q) (ask_of q)) (words_asked q))).packet ≡ id
unfolding sent_packet direct_packet
id_asked id q true = refl
id_asked id q false = refl

id_ask : (id : ℕ) (q : DiskRequest) → id_of (page_ask id q).packet ≡ id
unfolding page_ask
id_ask id q = id_asked id q (bytes_of_ask q == 0)

id_encoded : (id : ℕ) (a : Want DiskStep DiskRequest) → id_of (page_encode id a).packet ≡ id
id_encoded id (Step s) = id_start id s
id_encoded id (Request q) = by_test (fits_page q)
    (λ fits. ap (λ b. id_of (cond b (page_ask id q) (item_of (disk_start id Begin) [])).packet) fits ∙ id_ask id q)
    (λ not. ap (λ b. id_of (cond b (page_ask id q) (item_of (disk_start id Begin) [])).packet) not ∙ id_start id Begin)

id_fixed : (i : Item) → id_of (page_fixed i).packet ≡ id_of i.packet
unfolding page_fixed done_packet
id_fixed i = refl

id_answer : (i : Item) (r : DiskReply) → id_of (page_answer i r).packet ≡ id_of i.packet
unfolding page_answer done_packet
id_answer i r = refl

closes : (i : Item) (r : DiskReply) → (kind_of (page_answer i r).packet == 11) ≡ true
unfolding page_answer
closes i r = ap (λ k. k == 11) (done_kind _ _)

closes_fixed : (i : Item) → (kind_of (page_fixed i).packet == 11) ≡ true
unfolding page_fixed
closes_fixed i = ap (λ k. k == 11) (done_kind _ _)

unread : (i : Item) → page_waits i ≡ false → page_read i ≡ None
unfolding page_read
unread i not = rw not refl

page_sound : Sound page_codec
page_sound = record {
  id_encoded = id_encoded;
  id_fixed = id_fixed;
  id_answer = id_answer;
  waits_alike = λ id a. waits_always id a ∙ sym (waits_always 0 a);
  read_alike = read_alike;
  unread = unread;
  closes = closes;
  closes_fixed = closes_fixed;
  reads = λ id a q r h fits. reply_read (page_encode id a) q r h fits;
}

pub page_keeps : Keeps (format_by page_codec)
page_keeps = codec_keeps page_codec page_sound

pub page_silent : HasNoMessages (format_by page_codec)
page_silent = codec_silent page_codec page_sound

-- what pages ask

start_other : (k : DiskStep) → (start_vstor k).operation ≢ 107
start_other Begin e = absurd (omega (arith, e))
start_other Version e = absurd (omega (arith, e))
start_other Properties e = absurd (omega (arith, e))
start_other End e = absurd (omega (arith, e))
start_other (SubChannels n) e = absurd (omega (arith, e))

pub start_lends : (id : ℕ) (k : DiskStep) → lent_of (disk_start id k) ≡ None
unfolding disk_start
start_lends id k = sent_lends id (start_vstor k) (start_is_formed k) (start_other k)

-- what a request lends: its page, and all that it moves
pub ask_lends : (id : ℕ) (q : DiskRequest) → id ≤ 64 → Fits q → lent_of (page_ask id q).packet ≡ cond (bytes_of_ask q == 0) None (Some (record { page = id - 1; bytes = bytes_of_ask q }))
ask_lends id q most fits = by_test (bytes_of_ask q == 0)
    (λ none. rw none (ap (λ (i : Item). lent_of i.packet) (ask_none id q none) ∙ sent_lends id (ask_of q) (ask_formed q fits) (λ e. absurd (omega (arith, e)))))
    (λ some. rw some (ap (λ (i : Item). lent_of i.packet) (ask_some id q some) ∙ direct_lends_any id (bytes_of_ask q) (ask_of q) most (grind (arith, nat_tests, some)) fits.few))

own_page : (b : Bool) (id n : ℕ) (l : Lent) → 1 ≤ id → cond b None (Some (record { page = id - 1; bytes = n })) ≡ Some l → l.page + 1 ≡ id
own_page true id n l one h = cc
own_page false id n l one h =
    let own : Lent = record { page = id - 1; bytes = n } in
    let same : own ≡ l = cc in
    let page : l.page ≡ id - 1 = ap (λ (x : Lent). x.page) (sym same) in
    omega (arith, page, one)

lends_own : (id : ℕ) (a : Want DiskStep DiskRequest) (l : Lent) → 1 ≤ id → id ≤ 64 → lent_of (page_encode id a).packet ≡ Some l → l.page + 1 ≡ id
lends_own id (Step s) l one most h = let none = start_lends id s in cc
lends_own id (Request q) l one most h = by_test (fits_page q)
    (λ fits. own_page (bytes_of_ask q == 0) id (bytes_of_ask q) l one (sym (ask_lends id q most (fits_from q fits)) ∙ sym (ap (λ b. lent_of (cond b (page_ask id q) (item_of (disk_start id Begin) [])).packet) fits) ∙ h))
    (λ not. let none : lent_of (page_encode id (Request q)).packet ≡ None = ap (λ b. lent_of (cond b (page_ask id q) (item_of (disk_start id Begin) [])).packet) not ∙ start_lends id Begin in cc)

start_kind : (id : ℕ) (k : DiskStep) → kind_of (disk_start id k) ≡ 6
unfolding disk_start
start_kind id k = sent_kind id (start_vstor k)

not_done : (p : List ℕ) → (kind_of p ≡ 6) ⊎ (kind_of p ≡ 9) → (kind_of p == 11) ≡ false
not_done p h = ⊎_elim (λ six. ap (λ k. k == 11) six) (λ nine. ap (λ k. k == 11) nine) h

encode_asks : (id : ℕ) (a : Want DiskStep DiskRequest) → (kind_of (page_encode id a).packet == 11) ≡ false
encode_asks id a = not_done (page_encode id a).packet (waits_kind (page_encode id a) (waits_always id a))

answer_within : (i : Item) (q : DiskRequest) (r : DiskReply) → page_read i ≡ Some q → disk_fits q r ≡ true → length (page_answer i r).words ≤ length i.words
unfolding page_answer
answer_within i q r h fits =
    let few = (page_asks i q h).few in
    let back = (back_fits q r fits).0 in
    omega (arith, few, back, length-bytes_in i.words, length-words_from (words_for (length (back_of r))) (back_of r))

fixed_words : (i : Item) → (page_fixed i).words ≡ []
unfolding page_fixed
fixed_words i = refl

fixed_if : (b : Bool) (i : Item) (back : Back Item) → cond b (Some (alone (page_fixed i))) None ≡ Some back → back.answer.words ≡ []
fixed_if true i back is = let same : alone (page_fixed i) ≡ back = cc in ap (λ (b : Back Item). b.answer.words) (sym same) ∙ fixed_words i
fixed_if false i back is = cc

pub disk_pages : KeepsPages (format_by page_codec)
disk_pages = record {
  ids = λ i. refl;
  answers = λ i. refl;
  acks = λ i is. cc;
  asks = encode_asks;
  waits = λ i is. not_done i.packet (waits_kind i is);
  messages = λ i is. cc;
  lent = λ id a l one most has h. lends_own id a l one most h;
  silent = λ id a none. let always = waits_always 0 a in absurd (true_not_false (sym always ∙ none));
  besides = λ i r. tt;
  fixed_besides = λ i b is. subst LendsOwnPage (sym (page_silent.fixed i b is)) tt;
  back = answer_within;
  fixed_back = λ i b is. fixed_if (page_waits i && is_none (page_read i)) i b is;
  acked = fixed_words;
}
  where
    true_not_false : true ≡ false → ⊥
    true_not_false e = cc

-- the steps, where there are sub-channels
pub some_steps : (subs : ℕ) → 1 ≤ subs → disk_steps subs ≡ Begin ∷ Version ∷ Properties ∷ End ∷ SubChannels subs ∷ []
some_steps zero some = absurd (omega (arith, some))
some_steps (suc n) some = refl

few_steps : (subs : ℕ) → length (disk_steps subs) ≤ 5
few_steps zero = omega arith
few_steps (suc n) = omega arith

pub page_kept : KeepsWire disk_model IsPageAsk
page_kept = codec_kept page_codec true (λ subs lists. disk_steps subs) IsPageAsk (record {
  sound = page_sound;
  paged = λ lends. disk_pages;
  ids = λ i. refl;
  few = λ subs lists. few_steps subs;
  same = λ subs lists others. refl;
  fixed = start_read;
  waits = start_waits 0;
  asked = ask_read;
})

-- what is asked, and how it is read

-- the packet of a start-up or of a request is read as it was meant, whatever stood in its page before
pub said_start : (id : ℕ) (k : DiskStep) (j : Item) → j.packet ≡ disk_start id k → length j.words ≡ 0 → said_item j ≡ item_of (disk_start id k) []
said_start id k j is none = ap (λ p. said_item (item_of p j.words)) is ∙ ap (λ ws. said_item (item_of (disk_start id k) ws)) (none_left j.words none) ∙ said_bare (disk_start id k)
  where
    none_left : (ws : List ℕ) → length ws ≡ 0 → ws ≡ []
    none_left [] e = refl
    none_left (w ∷ ws) e = absurd (omega (arith, e))

-- what is stopped

stops : (v : Vstor) (lacks : Bool) (came : List ℕ) → v.operation ≡ 3 → cond lacks 4 (stopped_by (request_of v came)) ≡ 4 → cond lacks None (with_room (length came) (request_of v came)) ≡ None
    → (srb_asked v lacks came ≡ None) × (page_fixed_vstor v lacks came ≡ stop_of v 4)
unfolding srb_asked page_fixed_vstor
stops v lacks came srb status none =
    let test : (v.operation == 3) ≡ true = ap (λ n. n == 3) srb in
    (rw test none, rw test (ap (stop_of v) status))

stopped_item : (i : Item) → page_waits i ≡ true → (srb_asked (vstor_of i.packet) (lacks_page i) (bytes_in i.words) ≡ None) × (page_fixed_vstor (vstor_of i.packet) (lacks_page i) (bytes_in i.words) ≡ stop_of (vstor_of i.packet) 4)
    → (page_read i ≡ None) × (page_fixed i ≡ item_of (done_packet (id_of i.packet) (stop_of (vstor_of i.packet) 4) []) [])
unfolding page_read page_fixed
stopped_item i waits two = (rw waits two.0, ap (λ w. item_of (done_packet (id_of i.packet) w []) []) two.1)

pub stopped_without_page : (i : Item) → page_waits i ≡ true → lacks_page i ≡ true → (vstor_of i.packet).operation ≡ 3 → (page_read i ≡ None) × (page_fixed i ≡ item_of (done_packet (id_of i.packet) (stop_of (vstor_of i.packet) 4) []) [])
stopped_without_page i waits lacks srb =
    let v = vstor_of i.packet in
    let came = bytes_in i.words in
    stopped_item i waits (subst (λ b. (srb_asked v b came ≡ None) × (page_fixed_vstor v b came ≡ stop_of v 4)) (sym lacks) (stops v true came srb refl refl))

either_four : (b : Bool) → cond {A = ℕ} b 4 4 ≡ 4
either_four true = refl
either_four false = refl

either_none : (b : Bool) → cond {A = Option DiskRequest} b None None ≡ None
either_none true = refl
either_none false = refl

pub stopped_without_room : (i : Item) (q : DiskRequest) → page_waits i ≡ true → (vstor_of i.packet).operation ≡ 3 → request_of (vstor_of i.packet) (bytes_in i.words) ≡ Ok q → 8 * length i.words < most_back (command_of q.cdb)
    → (page_read i ≡ None) × (page_fixed i ≡ item_of (done_packet (id_of i.packet) (stop_of (vstor_of i.packet) 4) []) [])
stopped_without_room i q waits srb is short =
    let v = vstor_of i.packet in
    let came = bytes_in i.words in
    let len = length-bytes_in i.words in
    let over : nat_le (most_back (command_of q.cdb)) (min (length came) 4096) ≡ false = grind (arith, nat_tests, len, short) in
    let none : with_room (length came) (request_of v came) ≡ None = ap (with_room (length came)) is ∙ ap (λ b. cond b (Some q) None) over in
    stopped_item i waits (stops v (lacks_page i) came srb (ap (λ r. cond (lacks_page i) 4 (stopped_by r)) is ∙ either_four (lacks_page i)) (ap (cond (lacks_page i) None) none ∙ either_none (lacks_page i)))

-- items are read as they were meant

said_request : (id : ℕ) (q : DiskRequest) → fits_page q ≡ true → said_item (page_ask id q) ≡ page_ask id q
said_request id q fits = by_test (bytes_of_ask q == 0)
    (λ none. subst (λ (x : Item). said_item x ≡ x) (sym (ask_none id q none)) (said_bare (sent_packet id (ask_of q) [])))
    (λ some.
    let is = ask_some id q some in
    let long = ap (λ (x : Item). length x.words) is ∙ asked_long q (λ e. grind (arith, nat_tests, some, e)) in
    said_ask id q (page_ask id q) (fits_from q fits) refl long (λ _ takes. ap (λ (x : Item). x.words) is ∙ ap (λ b. cond b (replicate (words_for (bytes_of_ask q)) 0) (words_of q.out)) takes))

pub said_encoded : (id : ℕ) (a : Want DiskStep DiskRequest) → said_item (page_encode id a) ≡ page_encode id a
said_encoded id (Step s) = said_bare (disk_start id s)
said_encoded id (Request q) = by_test (fits_page q)
    (λ fits. subst (λ (x : Item). said_item x ≡ x) (sym (ap (λ b. cond b (page_ask id q) (item_of (disk_start id Begin) [])) fits)) (said_request id q fits))
    (λ not. subst (λ (x : Item). said_item x ≡ x) (sym (ap (λ b. cond b (page_ask id q) (item_of (disk_start id Begin) [])) not)) (said_bare (disk_start id Begin)))

-- a request that gives bytes, whatever stood in its page before

ask_long : (id : ℕ) (q : DiskRequest) → length (page_ask id q).words ≡ words_for (bytes_of_ask q)
ask_long id q = by_test (bytes_of_ask q == 0)
    (λ none. let zero_long : 0 ≡ words_for (bytes_of_ask q) = grind (arith, nat_tests, none) in ap (λ (x : Item). length x.words) (ask_none id q none) ∙ zero_long)
    (λ some. ap (λ (x : Item). length x.words) (ask_some id q some) ∙ asked_long q (λ e. grind (arith, nat_tests, some, e)))

pub said_reads : (id : ℕ) (q : DiskRequest) (j : Item) → data_in (command_of q.cdb) ≡ 1 → j.packet ≡ (page_encode id (Request q)).packet → length j.words ≡ length (page_encode id (Request q)).words → said_item j ≡ page_encode id (Request q)
said_reads id q j gives is long = by_test (fits_page q)
    (λ fits.
    let here = ap (λ b. cond b (page_ask id q) (item_of (disk_start id Begin) [])) fits in
    said_ask id q j (fits_from q fits) (is ∙ ap (λ (x : Item). x.packet) here) (long ∙ (ap (λ (x : Item). length x.words) here ∙ ask_long id q)) (λ some takes. let never : ⊥ = grind (arith, nat_tests, gives, takes) in absurd never) ∙ sym here)
    (λ not.
    let here = ap (λ b. cond b (page_ask id q) (item_of (disk_start id Begin) [])) not in
    said_start id Begin j (is ∙ ap (λ (x : Item). x.packet) here) (long ∙ ap (λ (x : Item). length x.words) here) ∙ sym here)

answer_words : (i : Item) (r : DiskReply) → (page_answer i r).words ≡ words_of (back_of r)
unfolding page_answer
answer_words i r = refl

pub said_answered : (i : Item) (q : DiskRequest) (r : DiskReply) (j : Item) → page_read i ≡ Some q → disk_fits q r ≡ true → j.packet ≡ (page_answer i r).packet → take (length (page_answer i r).words) j.words ≡ (page_answer i r).words → said_item j ≡ page_answer i r
said_answered i q r j h fits is front = said_answer i q r j h fits is (subst (λ ws. take (length ws) j.words ≡ ws) (answer_words i r) front)

pub said_fixed_so : (i j : Item) → page_waits i ≡ true → j.packet ≡ (page_fixed i).packet → said_item j ≡ page_fixed i
said_fixed_so = said_fixed

-- how requests are laid: a write with all of its data, and anything else with room for what may come

whole_write : (k : Option Command) (out : List ℕ) → (data_in k == 1) ≡ false → (bytes_moved k (length out) == 0) ≡ false → bytes_moved k (length out) ≡ length out
whole_write None out takes some = cc
whole_write (Some TestUnitReady) out takes some = cc
whole_write (Some (Inquiry s a)) out takes some = cc
whole_write (Some ReadCapacity) out takes some = cc
whole_write (Some (ReadBlocks l k)) out takes some = cc
whole_write (Some (Write l k)) out takes some = refl
whole_write (Some SynchronizeCache) out takes some = cc
whole_write (Some (LongCapacity b a)) out takes some = cc

pub lays_direct : (id : ℕ) (q : DiskRequest) (p ws : List ℕ) (n : ℕ) → IsPageAsk q → (bytes_of_ask q == 0) ≡ false → p ≡ direct_packet id (bytes_of_ask q) (ask_of q) → ws ≡ words_of q.out → n ≡ words_for (bytes_of_ask q) → (i : Item) → Lays p ws n i → said_item i ≡ page_ask id q
lays_direct id q p ws n can some is data_is many i lays =
    let built = ask_some id q some in
    said_ask id q i (fits_from q (fits_can q can)) (lays.packet_is ∙ is ∙ sym (ap (λ (x : Item). x.packet) built)) (lays.long ∙ many)
    (λ _ takes.
    let all = whole_write (command_of q.cdb) q.out takes some in
    let len : length ws ≡ words_for (length q.out) = ap length data_is ∙ length-words_from (words_for (length q.out)) q.out in
    sym (take_all (length ws) i.words (omega (arith, lays.long, many, all, len))) ∙ lays.words_are ∙ data_is)

pub lays_sent : (id : ℕ) (q : DiskRequest) (p ws : List ℕ) (n : ℕ) → IsPageAsk q → (bytes_of_ask q == 0) ≡ true → p ≡ sent_packet id (ask_of q) [] → n ≡ 0 → (i : Item) → Lays p ws n i → said_item i ≡ page_ask id q
lays_sent id q p ws n can none is bare i lays =
    said_ask id q i (fits_from q (fits_can q can)) (lays.packet_is ∙ is ∙ sym (ap (λ (x : Item). x.packet) (ask_none id q none))) (grind (arith, nat_tests, lays.long, bare, none)) (λ some _. cc)

-- a request that can be asked is asked so
pub can_encoded : (id : ℕ) (q : DiskRequest) → IsPageAsk q → page_ask id q ≡ page_encode id (Request q)
can_encoded id q can = sym (ap (λ b. cond b (page_ask id q) (item_of (disk_start id Begin) [])) (fits_can q can))

-- how many words a request lends
pub direct_words : (id n : ℕ) (v : Vstor) (p : List ℕ) → p ≡ direct_packet id n v → id ≤ 64 → 1 ≤ n → n ≤ 4096 → words_lent p ≡ words_for n
direct_words id n v p is most some few = ap words_lent is ∙ ap lent_len (direct_lends_any id n v most some few)

pub sent_words : (id : ℕ) (q : DiskRequest) (p : List ℕ) → IsPageAsk q → p ≡ sent_packet id (ask_of q) [] → words_lent p ≡ 0
sent_words id q p can is = ap words_lent is ∙ ap lent_len (sent_lends id (ask_of q) (ask_formed q (fits_from q (fits_can q can))) (λ e. absurd (omega (arith, e))))

pub start_words : (id : ℕ) (k : DiskStep) → words_lent (disk_start id k) ≡ 0
start_words id k = ap lent_len (start_lends id k)

-- a request of the start-up is answered as it is, or refused where its answer would be that of an srb that gave bytes

start_unasked : (v : Vstor) (lacks : Bool) (came : List ℕ) → v.operation ≢ 3 → srb_asked v lacks came ≡ None
unfolding srb_asked
start_unasked v lacks came other =
    let test : (v.operation == 3) ≡ false = grind (arith, nat_tests, other) in
    ap (λ b. cond b (cond lacks None (with_room (length came) (request_of v came))) None) test

none_if : (b : Bool) (o : Option DiskRequest) → o ≡ None → cond b o None ≡ None
none_if true o is = is
none_if false o is = refl

start_nothing : (i : Item) → (vstor_of i.packet).operation ≢ 3 → page_read i ≡ None
unfolding page_read
start_nothing i other = none_if (page_waits i) (srb_asked (vstor_of i.packet) (lacks_page i) (bytes_in i.words)) (start_unasked (vstor_of i.packet) (lacks_page i) (bytes_in i.words) other)

start_by : (v : Vstor) (lacks : Bool) (came : List ℕ) (silent : Bool) → v.operation ≢ 3 → (came_with (answer_of v) == 0) ≡ silent → page_fixed_vstor v lacks came ≡ cond silent (answer_of v) refused_vstor
unfolding page_fixed_vstor
start_by v lacks came silent other is =
    let test : (v.operation == 3) ≡ false = grind (arith, nat_tests, other) in
    ap (λ b. cond b (stop_of v (cond lacks 4 (stopped_by (request_of v came)))) (silent_answer (answer_of v))) test ∙ ap (λ b. cond b (answer_of v) refused_vstor) is

start_item : (i : Item) (silent : Bool) → (vstor_of i.packet).operation ≢ 3 → (came_with (answer_of (vstor_of i.packet)) == 0) ≡ silent → page_fixed i ≡ item_of (done_packet (id_of i.packet) (cond silent (answer_of (vstor_of i.packet)) refused_vstor) []) []
unfolding page_fixed
start_item i silent other is = ap (λ w. item_of (done_packet (id_of i.packet) w []) []) (start_by (vstor_of i.packet) (lacks_page i) (bytes_in i.words) silent other is)

pub start_exact : (i : Item) → (vstor_of i.packet).operation ≢ 3 → came_with (answer_of (vstor_of i.packet)) ≡ 0 → (page_read i ≡ None) × (page_fixed i ≡ item_of (done_packet (id_of i.packet) (answer_of (vstor_of i.packet)) []) [])
start_exact i other none = (start_nothing i other, start_item i true other (grind (arith, nat_tests, none)))

pub start_refused : (i : Item) → (vstor_of i.packet).operation ≢ 3 → came_with (answer_of (vstor_of i.packet)) ≢ 0 → (page_read i ≡ None) × (page_fixed i ≡ item_of (done_packet (id_of i.packet) refused_vstor []) [])
start_refused i other some = (start_nothing i other, start_item i false other (grind (arith, nat_tests, some)))

-- the own requests give nothing back
own_silent : (k : DiskStep) → came_with (answer_of (start_vstor k)) ≡ 0
unfolding number_of with_number bytes_of
own_silent Begin = none_came (answer_of (start_vstor Begin)) 0 refl refl
own_silent Version = none_came (answer_of (start_vstor Version)) 0 refl refl
own_silent Properties = none_came (answer_of (start_vstor Properties)) 0 refl refl
own_silent End = none_came (answer_of (start_vstor End)) 0 refl refl
own_silent (SubChannels n) = none_came (answer_of (start_vstor (SubChannels n))) 0 refl refl

own_other : (k : DiskStep) → (start_vstor k).operation ≢ 3
own_other Begin e = absurd (omega (arith, e))
own_other Version e = absurd (omega (arith, e))
own_other Properties e = absurd (omega (arith, e))
own_other End e = absurd (omega (arith, e))
own_other (SubChannels n) e = absurd (omega (arith, e))

start_holds : (id : ℕ) (k : DiskStep) → vstor_of (disk_start id k) ≡ start_vstor k
unfolding disk_start
start_holds id k = (sent_holds id (start_vstor k) (start_is_formed k) (start_allowed k)).vstor

own_answer : (i : Item) (id : ℕ) (k : DiskStep) → id_of i.packet ≡ id → vstor_of i.packet ≡ start_vstor k → page_fixed i ≡ item_of (done_packet id (answer_of (start_vstor k)) []) []
own_answer i id k same is =
    let other = subst (λ (v : Vstor). v.operation ≢ 3) (sym is) (own_other k) in
    let none = subst (λ (v : Vstor). came_with (answer_of v) ≡ 0) (sym is) (own_silent k) in
    (start_exact i other none).1 ∙ (ap (λ n. item_of (done_packet n (answer_of (vstor_of i.packet)) []) []) same ∙ ap (λ v. item_of (done_packet id (answer_of v) []) []) is)

pub start_own : (id : ℕ) (k : DiskStep) → fixed_back page_codec (page_encode id (Step k)) ≡ Some (alone (item_of (done_packet id (answer_of (start_vstor k)) []) []))
start_own id k =
    let i = item_of (disk_start id k) [] in
    ap (λ b. cond (b && is_none (page_read i)) (Some (alone (page_fixed i))) None) (start_waits id k)
    ∙ (ap (λ o. cond (is_none o) (Some (alone (page_fixed i))) None) (start_read id k)
    ∙ ap (λ j. Some (alone j)) (own_answer i id k (id_start id k) (start_holds id k)))
