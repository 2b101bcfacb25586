-- A disk's channel over data pages: what was asked is read, and packets under other ids say the same.
use Rattle.std.proofs.Common.{◌≡◌, ◌≢◌, ℕ, ◌*◌, ◌<◌, ◌≤◌, ◌==◌, Bool, true, false, cond, ◌&&◌, List, [], ◌∷◌, ◌++◌, length, replicate, min, Option, Some, None, refl, sym, ap, ◌∙◌, lit<, arith, length-append, ◌-◌}
use Rattle.std.specs.Prelude.{nat_le, nat_lt, is_none}
use Rattle.std.specs.List.{AllByRecursion, list_all}
use Rattle.std.proofs.lemmas.Bool.Decides.{nat_tests}
use Rattle.std.proofs.lemmas.List.{length-replicate}
use Rattle.wire_table.proofs.RowLaws.{IsBytes}
use Rattle.vm_page.specs.Words.{words_for, words_of, bytes_in}
use Rattle.vm_page.proofs.WordLaws.{length-words_from, length-bytes_in, bytes_in-words_from}
use Rattle.pkt_desc.specs.Packets.{kind_of}
use Rattle.page_kept.specs.declared.item.Item.{Item}
use Rattle.page_kept.specs.Items.{item_of}
use Rattle.scsi_disk.specs.Commands.{command_of}
use Rattle.scsi_disk.specs.DiskModel.{most_back}
use Rattle.scsi_disk.specs.declared.command.Command.{Command}
use Rattle.scsi_disk.specs.declared.command.Command.TheVariants.{TestUnitReady, Inquiry, ReadCapacity, Read as ReadBlocks, Write, SynchronizeCache, LongCapacity}
use Rattle.scsi_disk.specs.declared.request.DiskRequest.{DiskRequest}
use Rattle.stor_proto.specs.Packets.{vstor_bytes, vstor_fault, IsAllowed}
use Rattle.stor_proto.specs.Srbs.{data_for, bytes_moved, data_in, ask_of, request_of}
use Rattle.stor_proto.specs.declared.vstor.Vstor.{Vstor}
use Rattle.stor_proto.proofs.SrbLaws.{ask_read_more}
use Rattle.device_packets.specs.Packets.{is_of, is_inband, content_of}
use Rattle.device_wire.specs.declared.want.Want.{Want}
use Rattle.device_wire.specs.declared.want.Want.TheVariants.{Step, Request}
use Rattle.device_packets.specs.Said.{vstor_of, has_vstor}
use Rattle.disk_format.specs.declared.disk_step.DiskStep.{DiskStep}
use Rattle.disk_format.specs.declared.disk_step.DiskStep.TheVariants.{Begin, Version, Properties, End, SubChannels}
use Rattle.disk_format.specs.Disks.{sent_packet, start_vstor, disk_start}
use Rattle.disk_format.specs.PageDisks.{is_direct, page_waits, is_empty, lacks_page, with_room, srb_asked, page_read, bytes_of_ask, words_asked, direct_packet, page_ask, fits_page, IsPageAsk, page_encode}
use Rattle.device_packets.proofs.ByteLaws.{from_all, all_from_test, test_from_all}
use Rattle.device_packets.proofs.PacketLaws.{is_of_kept, kind_plain, by_test}
use Rattle.disk_format.proofs.VstorLaws.{Formed, in_form, read_again, length-vstor}
use Rattle.disk_format.proofs.DiskLaws.{rest_formed, start_is_formed, start_allowed, none_are_bytes}
use Rattle.disk_format.proofs.SpanLaws.{direct_kind, direct_short, direct_content}

-- storage packets alone, in a packet of either type

pub sent_kind : (id : ℕ) (v : Vstor) → kind_of (sent_packet id v []) ≡ 6
unfolding sent_packet
sent_kind id v = kind_plain 6 id 1 (vstor_bytes v ++ []) (lit< tt)

-- it is read as it was written
pub record Holds (p : List ℕ) (v : Vstor) : Type 0 where
  pub has : has_vstor p ≡ true
  pub vstor : vstor_of p ≡ v

pub sent_holds : (id : ℕ) (v : Vstor) → Formed v → IsAllowed v → Holds (sent_packet id v []) v
unfolding sent_packet
sent_holds id v formed allowed =
    let again = read_again 6 id 1 v [] (lit< tt) (in_form v formed) allowed none_are_bytes in
    record { has = again.has; vstor = again.vstor }

has_alike : (p q : List ℕ) → content_of p ≡ content_of q → has_vstor p ≡ has_vstor q
unfolding has_vstor
has_alike p q same = ap (λ c. is_none (vstor_fault c)) same

vstor_alike : (p q : List ℕ) → content_of p ≡ content_of q → vstor_of p ≡ vstor_of q
unfolding vstor_of
vstor_alike p q same = rw same refl

pub direct_holds : (id n : ℕ) (v : Vstor) → Formed v → IsAllowed v → Holds (direct_packet id n v) v
direct_holds id n v formed allowed =
    let again = sent_holds 0 v formed allowed in
    let same = direct_content id n v in
    record { has = has_alike (direct_packet id n v) (sent_packet 0 v []) same ∙ again.has; vstor = vstor_alike (direct_packet id n v) (sent_packet 0 v []) same ∙ again.vstor }

-- both wait

pub sent_waits : (id : ℕ) (v : Vstor) (ws : List ℕ) → Formed v → IsAllowed v → page_waits (item_of (sent_packet id v []) ws) ≡ true
unfolding page_waits sent_packet is_inband
sent_waits id v ws formed allowed =
    let bs = vstor_bytes v ++ [] in
    let len : length bs ≡ 64 = length-append (vstor_bytes v) [] ∙ omega (arith, length-vstor v (in_form v formed)) in
    let inband : is_of 6 (sent_packet id v []) ≡ true = is_of_kept 6 id 1 bs (lit< tt) (omega (arith, len)) in
    rw (inband, (sent_holds id v formed allowed).has) refl

pub direct_waits : (id n : ℕ) (v : Vstor) (ws : List ℕ) → Formed v → IsAllowed v → page_waits (item_of (direct_packet id n v) ws) ≡ true
unfolding page_waits is_inband is_direct
direct_waits id n v ws formed allowed =
    let p = direct_packet id n v in
    let kind = direct_kind id n v in
    let short : nat_le (length p) 384 ≡ true = grind (arith, nat_tests, direct_short id n v (in_form v formed)) in
    let not_inband : is_of 6 p ≡ false = ap (λ k. (k == 6) && nat_le (length p) 384) kind in
    let direct : is_of 9 p ≡ true = ap (λ k. (k == 9) && nat_le (length p) 384) kind ∙ short in
    rw (not_inband, direct, (direct_holds id n v formed allowed).has) refl

-- and neither came without its page

pub sent_has_page : (id : ℕ) (v : Vstor) (ws : List ℕ) → lacks_page (item_of (sent_packet id v []) ws) ≡ false
unfolding lacks_page
sent_has_page id v ws = ap (λ k. (k == 9) && is_empty ws) (sent_kind id v)

not_empty : (ws : List ℕ) → 1 ≤ length ws → is_empty ws ≡ false
not_empty [] some = absurd (omega (arith, some))
not_empty (w ∷ ws) some = refl

pub direct_has_page : (id n : ℕ) (v : Vstor) (ws : List ℕ) → 1 ≤ length ws → lacks_page (item_of (direct_packet id n v) ws) ≡ false
unfolding lacks_page
direct_has_page id n v ws some = ap (λ k. (k == 9) && is_empty ws) (direct_kind id n v) ∙ not_empty ws some

read_waiting : (i : Item) (v : Vstor) → page_waits i ≡ true → vstor_of i.packet ≡ v → lacks_page i ≡ false → page_read i ≡ srb_asked v false (bytes_in i.words)
unfolding page_read
read_waiting i v waits is has =
    rw waits (ap (λ w. srb_asked w (lacks_page i) (bytes_in i.words)) is ∙ ap (λ b. srb_asked v b (bytes_in i.words)) has)

-- the start-up

start_nothing : (k : DiskStep) (came : List ℕ) → srb_asked (start_vstor k) false came ≡ None
unfolding srb_asked
start_nothing Begin came = refl
start_nothing Version came = refl
start_nothing Properties came = refl
start_nothing End came = refl
start_nothing (SubChannels n) came = refl

pub start_waits : (id : ℕ) (k : DiskStep) → page_waits (item_of (disk_start id k) []) ≡ true
unfolding disk_start
start_waits id k = sent_waits id (start_vstor k) [] (start_is_formed k) (start_allowed k)

pub start_read : (id : ℕ) (k : DiskStep) → page_read (item_of (disk_start id k) []) ≡ None
unfolding disk_start
start_read id k =
    read_waiting (item_of (sent_packet id (start_vstor k) []) []) (start_vstor k) (start_waits id k) (sent_holds id (start_vstor k) (start_is_formed k) (start_allowed k)).vstor (sent_has_page id (start_vstor k) [])
    ∙ start_nothing k (bytes_in [])

-- requests of the disk

both : (a b : Bool) → (a && b) ≡ true → (a ≡ true) × (b ≡ true)
both true true h = (refl, refl)
both true false h = cc
both false b h = cc

-- a request that fits a page
pub record Fits (q : DiskRequest) : Type 0 where
  pub len : length q.cdb ≡ 16
  pub bytes : AllByRecursion (λ b. b < 256) q.cdb
  pub few : bytes_of_ask q ≤ 4096

pub fits_from : (q : DiskRequest) → fits_page q ≡ true → Fits q
unfolding fits_page
fits_from q h =
    let one = both (length q.cdb == 16) (list_all (λ b. nat_lt b 256) q.cdb && nat_le (bytes_of_ask q) 4096) h in
    let two = both (list_all (λ b. nat_lt b 256) q.cdb) (nat_le (bytes_of_ask q) 4096) one.1 in
    record { len = grind (arith, nat_tests, one.0); bytes = all_from_test q.cdb two.0; few = grind (arith, nat_tests, two.1) }

pub ask_formed : (q : DiskRequest) → Fits q → Formed (ask_of q)
ask_formed q fits =
    let rest = rest_formed (command_of q.cdb) q.cdb (length q.out) fits.len (from_all q.cdb fits.bytes) in
    record { operation = omega arith; flags = omega arith; status = omega arith; len = rest.0; bytes = rest.1 }

pub ask_allowed : (q : DiskRequest) → IsAllowed (ask_of q)
ask_allowed q = (refl, λ other. refl)

-- its page words are as many as hold the bytes that it moves
words_long : (k : Option Command) (out : List ℕ) → bytes_moved k (length out) ≢ 0 → length (cond (data_in k == 1) (replicate (words_for (bytes_moved k (length out))) 0) (words_of out)) ≡ words_for (bytes_moved k (length out))
words_long None out some = absurd (some refl)
words_long (Some TestUnitReady) out some = absurd (some refl)
words_long (Some (Inquiry s a)) out some = length-replicate {A = ℕ} (words_for (bytes_moved (Some (Inquiry s a)) (length out))) 0
words_long (Some ReadCapacity) out some = refl
words_long (Some (ReadBlocks l k)) out some = length-replicate {A = ℕ} (words_for (512 * k)) 0
words_long (Some (Write l k)) out some = length-words_from (words_for (length out)) out
words_long (Some SynchronizeCache) out some = absurd (some refl)
words_long (Some (LongCapacity b a)) out some = length-replicate {A = ℕ} (words_for (bytes_moved (Some (LongCapacity b a)) (length out))) 0

pub asked_long : (q : DiskRequest) → bytes_of_ask q ≢ 0 → length (words_asked q) ≡ words_for (bytes_of_ask q)
asked_long q some = words_long (command_of q.cdb) q.out some

-- the packet of a request is of the one type or the other
pub ask_none : (id : ℕ) (q : DiskRequest) → (bytes_of_ask q == 0) ≡ true → page_ask id q ≡ item_of (sent_packet id (ask_of q) []) []
unfolding page_ask
ask_none id q none = rw none refl

pub ask_some : (id : ℕ) (q : DiskRequest) → (bytes_of_ask q == 0) ≡ false → page_ask id q ≡ item_of (direct_packet id (bytes_of_ask q) (ask_of q)) (words_asked q)
unfolding page_ask
ask_some id q some = rw some refl

data_asked : DiskRequest → List ℕ
data_asked q = cond (bytes_of_ask q == 0) [] (bytes_in (words_asked q))

pub ask_waits : (id : ℕ) (q : DiskRequest) → Fits q → page_waits (page_ask id q) ≡ true
ask_waits id q fits = by_test (bytes_of_ask q == 0)
    (λ none. ap page_waits (ask_none id q none) ∙ sent_waits id (ask_of q) [] (ask_formed q fits) (ask_allowed q))
    (λ some. ap page_waits (ask_some id q some) ∙ direct_waits id (bytes_of_ask q) (ask_of q) (words_asked q) (ask_formed q fits) (ask_allowed q))

ask_is_read : (id : ℕ) (q : DiskRequest) → Fits q → page_read (page_ask id q) ≡ srb_asked (ask_of q) false (data_asked q)
unfolding data_asked
ask_is_read id q fits =
    let v = ask_of q in
    let n = bytes_of_ask q in
    let formed = ask_formed q fits in
    let allowed = ask_allowed q in
    by_test (n == 0)
    (λ none. ap page_read (ask_none id q none) ∙ read_waiting (item_of (sent_packet id v []) []) v (sent_waits id v [] formed allowed) (sent_holds id v formed allowed).vstor (sent_has_page id v [])
    ∙ rw none refl)
    (λ some. let more : 1 ≤ length (words_asked q) = grind (arith, nat_tests, some, asked_long q (λ e. grind (arith, nat_tests, some, e))) in
    ap page_read (ask_some id q some)
    ∙ read_waiting (item_of (direct_packet id n v) (words_asked q)) v (direct_waits id n v (words_asked q) formed allowed) (direct_holds id n v formed allowed).vstor (direct_has_page id n v (words_asked q) more)
    ∙ rw some refl)

-- under whatever id

asked_any : Want DiskStep DiskRequest → Option DiskRequest
asked_any (Step s) = None
asked_any (Request q) = cond (fits_page q) (srb_asked (ask_of q) false (data_asked q)) None

waits_all : (id : ℕ) (a : Want DiskStep DiskRequest) → page_waits (page_encode id a) ≡ true
waits_all id (Step s) = start_waits id s
waits_all id (Request q) = by_test (fits_page q)
    (λ fits. ap (λ b. page_waits (cond b (page_ask id q) (item_of (disk_start id Begin) []))) fits ∙ ask_waits id q (fits_from q fits))
    (λ not. ap (λ b. page_waits (cond b (page_ask id q) (item_of (disk_start id Begin) []))) not ∙ start_waits id Begin)

read_all : (id : ℕ) (a : Want DiskStep DiskRequest) → page_read (page_encode id a) ≡ asked_any a
unfolding asked_any
read_all id (Step s) = start_read id s
read_all id (Request q) = by_test (fits_page q)
    (λ fits. ap (λ b. page_read (cond b (page_ask id q) (item_of (disk_start id Begin) []))) fits ∙ ask_is_read id q (fits_from q fits) ∙ rw fits refl)
    (λ not. ap (λ b. page_read (cond b (page_ask id q) (item_of (disk_start id Begin) []))) not ∙ start_read id Begin ∙ rw not refl)

pub waits_always : (id : ℕ) (a : Want DiskStep DiskRequest) → page_waits (page_encode id a) ≡ true
waits_always = waits_all

pub read_alike : (id : ℕ) (a : Want DiskStep DiskRequest) → page_read (page_encode id a) ≡ page_read (page_encode 0 a)
read_alike id a = read_all id a ∙ sym (read_all 0 a)

-- what was asked is read

-- the bytes that came are those of a write, with zeros behind them, and of anything else whatever
of_none : (came out : List ℕ) → [] ≡ out → (more : List ℕ) × (came ≡ out ++ more)
of_none came out own = (came, ap (λ (xs : List ℕ). xs ++ came) own)

of_write : (out : List ℕ) → IsBytes out → (more : List ℕ) × (cond (length out == 0) [] (bytes_in (words_of out)) ≡ out ++ more)
of_write [] bytes = ([], refl)
of_write (b ∷ bs) bytes =
    let some : (length (b ∷ bs) == 0) ≡ false = grind (arith, nat_tests) in
    (replicate (8 * words_for (length (b ∷ bs)) - length (b ∷ bs)) 0, ap (λ t. cond t [] (bytes_in (words_of (b ∷ bs)))) some ∙ bytes_in-words_from (words_for (length (b ∷ bs))) (b ∷ bs) bytes (omega arith))

asked_data : Option Command → List ℕ → List ℕ
asked_data k out = cond (bytes_moved k (length out) == 0) [] (bytes_in (cond (data_in k == 1) (replicate (words_for (bytes_moved k (length out))) 0) (words_of out)))

own_data : (k : Option Command) (out : List ℕ) → data_for k (length out) out ≡ out → IsBytes out → (more : List ℕ) × (asked_data k out ≡ out ++ more)
unfolding asked_data
own_data None out own bytes = of_none (asked_data None out) out own
own_data (Some TestUnitReady) out own bytes = of_none (asked_data (Some TestUnitReady) out) out own
own_data (Some (Inquiry s a)) out own bytes = of_none (asked_data (Some (Inquiry s a)) out) out own
own_data (Some ReadCapacity) out own bytes = of_none (asked_data (Some ReadCapacity) out) out own
own_data (Some (ReadBlocks l k)) out own bytes = of_none (asked_data (Some (ReadBlocks l k)) out) out own
own_data (Some (Write l k)) out own bytes = of_write out bytes
own_data (Some SynchronizeCache) out own bytes = of_none (asked_data (Some SynchronizeCache) out) out own
own_data (Some (LongCapacity b a)) out own bytes = of_none (asked_data (Some (LongCapacity b a)) out) out own

-- there is room for all that may come
pub back_most : (k : Option Command) (n : ℕ) → most_back k ≤ bytes_moved k n
back_most None n = omega arith
back_most (Some TestUnitReady) n = omega arith
back_most (Some (Inquiry s a)) n = omega arith
back_most (Some ReadCapacity) n = omega arith
back_most (Some (ReadBlocks l k)) n = omega arith
back_most (Some (Write l k)) n = omega arith
back_most (Some SynchronizeCache) n = omega arith
back_most (Some (LongCapacity b a)) n = omega arith

all_room : (q : DiskRequest) → most_back (command_of q.cdb) ≤ bytes_of_ask q
all_room q = back_most (command_of q.cdb) (length q.out)

room_for : (q : DiskRequest) → most_back (command_of q.cdb) ≤ length (data_asked q)
unfolding data_asked
room_for q = by_test (bytes_of_ask q == 0)
    (λ none. rw none (grind (arith, nat_tests, none, all_room q)))
    (λ some.
    let len = length-bytes_in (words_asked q) in
    let long = asked_long q (λ e. grind (arith, nat_tests, some, e)) in
    rw some (omega (arith, len, long, all_room q)))

pub fits_can : (q : DiskRequest) → IsPageAsk q → fits_page q ≡ true
unfolding fits_page
fits_can q can =
    let len : (length q.cdb == 16) ≡ true = grind (arith, nat_tests, can.len) in
    let few : nat_le (bytes_of_ask q) 4096 ≡ true = grind (arith, nat_tests, can.few) in
    rw (len, test_from_all q.cdb can.cdb_bytes, few) refl

pub ask_encoded : (id : ℕ) (q : DiskRequest) → IsPageAsk q → page_encode id (Request q) ≡ page_ask id q
ask_encoded id q can = ap (λ b. cond b (page_ask id q) (item_of (disk_start id Begin) [])) (fits_can q can)

asked_is : (q : DiskRequest) → IsPageAsk q → srb_asked (ask_of q) false (data_asked q) ≡ Some q
unfolding srb_asked data_asked asked_data
asked_is q can =
    let own = own_data (command_of q.cdb) q.out can.own (from_all q.out can.out_bytes) in
    let came = data_asked q in
    let room = room_for q in
    let fits : nat_le (most_back (command_of q.cdb)) (min (length came) 4096) ≡ true = grind (arith, nat_tests, room, all_room q, can.few) in
    ap (with_room (length came)) (ap (request_of (ask_of q)) own.1 ∙ ask_read_more q own.0 can.len (omega (arith, can.few)) can.own)
    ∙ ap (λ b. cond b (Some q) None) fits

pub ask_read : (id : ℕ) (q : DiskRequest) → IsPageAsk q → page_read (page_encode id (Request q)) ≡ Some q
ask_read id q can = ap page_read (ask_encoded id q can) ∙ ask_is_read id q (fits_from q (fits_can q can)) ∙ asked_is q can
