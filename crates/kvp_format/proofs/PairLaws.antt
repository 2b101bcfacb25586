-- A key-value channel: what was asked is read, and what was answered is read.
use Rattle.std.proofs.Common.{◌≡◌, ℕ, ◌+◌, ◌*◌, ◌-◌, ◌^◌, ◌<◌, ◌≤◌, ◌==◌, Bool, true, false, cond, ◌&&◌, nat_lt, is_none, List, [], ◌∷◌, ◌++◌, length, length-append, take, drop, replicate, Option, Some, None, refl, sym, ap, subst, ◌∙◌, lit<, lit≤, arith}
use Rattle.std.specs.Prelude.{nat_le, is_some}
use Rattle.std.specs.List.{AllByRecursion, list_all}
use Rattle.std.proofs.lemmas.Bool.Decides.{nat_tests}
use Rattle.wire_table.specs.Little.{number_of, bytes_of}
use Rattle.wire_table.proofs.RowLaws.{IsBytes, take_bytes, drop_bytes}
use Rattle.vm_page.specs.Words.{words_for}
use Rattle.pkt_desc.specs.Packets.{id_of, inband_packet}
use Rattle.contact.specs.declared.kind.DeviceKind.TheVariants.{Kvp as KindKvp}
use Rattle.util_ic.specs.Messages.{put, type_of, with_result, negotiate_bytes}
use Rattle.util_ic.specs.Answers.{utility_answer}
use Rattle.util_ic.specs.Packets.{negotiate_packet, served_packet}
use Rattle.util_ic.proofs.PacketLaws.{negotiate_carries}
use Rattle.kvp_pool.specs.Pools.{IsText}
use Rattle.kvp_ic.specs.declared.message.Kvp.{Kvp}
use Rattle.kvp_ic.specs.declared.message.Kvp.TheVariants.{Get, Set, Delete, Enum}
use Rattle.kvp_ic.specs.declared.message.KvpReply.{KvpReply}
use Rattle.kvp_ic.specs.declared.fault.KvpFault.{KvpFault}
use Rattle.kvp_ic.specs.Machine.{told, IsPart, IsReplyTo}
use Rattle.kvp_ic.specs.Texts.{text_size, field_of}
use Rattle.kvp_ic.specs.Messages.{kvp_bytes, key_place, value_place, operation_of, Asks, CanBeAsked}
use Rattle.kvp_ic.specs.Faults.{fault_of, message_in}
use Rattle.kvp_ic.specs.Answers.{replaced, with_part, kvp_answer, told_reply}
use Rattle.kvp_ic.proofs.AskLaws.{asks_if, asked_is}
use Rattle.kvp_ic.proofs.WriteLaws.{can_ask}
use Rattle.kvp_ic.proofs.ReplyLaws.{reply_fits, answer_size, answer_back}
use Rattle.kvp_ic.proofs.SpelledLaws.{field_bytes, length-request, request_bytes, type_is}
use Rattle.device_packets.specs.Packets.{is_of, is_inband, content_of}
use Rattle.page_kept.specs.Items.{item_of}
use Rattle.channel_protocol.specs.Listed.{answer_in}
use Rattle.channel_protocol.specs.Paged.{LaysSome, bare_item}
use Rattle.device_packets.specs.Said.{said_item}
use Rattle.device_packets.proofs.SaidLaws.{bare_so}
use Rattle.device_wire.specs.declared.want.Want.{Want}
use Rattle.device_wire.specs.declared.want.Want.TheVariants.{Step, Request}
use Rattle.device_wire.specs.Codecs.{alone, fixed_back}
use Rattle.device_wire.specs.WireModels.{KeepsWire}
use Rattle.device_wire.proofs.CodecLaws.{Sound, codec_kept}
use Rattle.kvp_format.specs.declared.kvp_step.KvpStep.{KvpStep}
use Rattle.kvp_format.specs.Pairs.{is_pair_message, pair_asked, pair_read, pair_fixed, pair_answer, pair_result, is_text, is_part, has_parts, pair_fits, pair_packet, pair_encode, pair_codec, kvp_model}
use Rattle.device_packets.proofs.ByteLaws.{from_all, append_bytes, number_bytes}
use Rattle.device_packets.proofs.PacketLaws.{content_any, content_kept, content_bytes, length-content, is_of_kept, short_of, cond_some}

-- ids

inband_any : (id flags : ℕ) (bs : List ℕ) → is_inband (inband_packet id flags bs) ≡ is_inband (inband_packet 0 flags bs)
unfolding is_inband
inband_any id flags bs = refl

start_waits : (id : ℕ) → is_inband (negotiate_packet id) ≡ true
unfolding is_inband bytes_of
start_waits id = is_of_kept 6 id 0 negotiate_bytes (lit< tt) (lit≤ tt)

pair_any : (id flags : ℕ) (bs : List ℕ) → pair_read (inband_packet id flags bs) ≡ pair_read (inband_packet 0 flags bs)
unfolding pair_read is_inband
pair_any id flags bs =
    let same : content_of (inband_packet id flags bs) ≡ content_of (inband_packet 0 flags bs) = content_any 6 id flags bs (lit< tt) ∙ sym (content_any 6 0 flags bs (lit< tt)) in
    ap (λ c. cond (is_of 6 (inband_packet id flags bs)) (pair_asked c) None) same

-- requests

asked_when : (l t : Bool) (o : Option KvpFault) (m n : Kvp) → l ≡ true → t ≡ true → o ≡ None → n ≡ m → cond ((l && t) && is_none o) (Some n) None ≡ Some m
asked_when true true None m n long type none is = ap Some is
asked_when true true (Some e) m n long type none is = cc
asked_when true false o m n long type none is = cc
asked_when false t o m n long type none is = cc

-- what follows makes bytes no fewer
longer : (n : ℕ) (xs ys : List ℕ) → n ≤ length xs → nat_le n (length (xs ++ ys)) ≡ true
longer n xs ys few =
    let all : n ≤ length (xs ++ ys) = omega (arith, few, length-append xs ys) in
    grind (arith, nat_tests, all)

-- a message that was written is read, whatever follows
asked_back : (m : Kvp) (more : List ℕ) → CanBeAsked m → pair_asked (kvp_bytes m ++ more) ≡ Some m
asked_back m more can =
    let b = kvp_bytes m ++ more in
    let said = asked_is m b (can_ask m can more) in
    let long : nat_le 28 (length b) ≡ true = long_test m more can in
    let type : (type_of b == 2) ≡ true = two_test (type_of b) (type_is m more can) in
    asked_when (nat_le 28 (length b)) (type_of b == 2) (fault_of b) m (message_in b) long type said.right (sym said.same)
  where
    long_test : (m : Kvp) (more : List ℕ) → CanBeAsked m → nat_le 28 (length (kvp_bytes m ++ more)) ≡ true
    long_test m more can = longer 28 (kvp_bytes m) more (length-request m can).0

    two_test : (n : ℕ) → n ≡ 2 → (n == 2) ≡ true
    two_test n is = grind (arith, nat_tests, is)

pub pair_ask_waits : (id : ℕ) (m : Kvp) → CanBeAsked m → is_inband (pair_packet id m) ≡ true
unfolding is_inband
pair_ask_waits id m can = is_of_kept 6 id 0 (kvp_bytes m) (lit< tt) (omega (arith, (length-request m can).1))

pub pair_ask_read : (id : ℕ) (m : Kvp) → CanBeAsked m → pair_read (pair_packet id m) ≡ Some m
unfolding pair_read
pair_ask_read id m can =
    let b = kvp_bytes m in
    let is : content_of (pair_packet id m) ≡ b ++ replicate (8 * words_for (length b) - length b) 0 = content_kept 6 id 0 b (lit< tt) (from_all b (request_bytes m can)) in
    ap (λ t. cond t (pair_asked (content_of (pair_packet id m))) None) (pair_ask_waits id m can)
    ∙ (ap pair_asked is ∙ asked_back m (replicate (8 * words_for (length b) - length b) 0) can)

-- the start-up

type_here : (more : List ℕ) → type_of (negotiate_bytes ++ more) ≡ 0
unfolding bytes_of number_of
type_here more = refl

not_asked : (l t f : Bool) (m : Kvp) → t ≡ false → cond ((l && t) && f) (Some m) None ≡ None
not_asked true true f m not = cc
not_asked true false f m not = refl
not_asked false t f m not = refl

start_asks : (more : List ℕ) → pair_asked (negotiate_bytes ++ more) ≡ None
start_asks more =
    let b = negotiate_bytes ++ more in
    not_asked (nat_le 28 (length b)) (type_of b == 2) (is_none (fault_of b)) (message_in b) (other (type_of b) (type_here more))
  where
    other : (n : ℕ) → n ≡ 0 → (n == 2) ≡ false
    other n is = grind (arith, nat_tests, is)

pub pair_start_read : (id : ℕ) → pair_read (negotiate_packet id) ≡ None
unfolding pair_read content_of
pair_start_read id =
    rw (start_waits id) (ap pair_asked (negotiate_carries id).bytes_are ∙ start_asks (replicate (8 * words_for (length negotiate_bytes) - length negotiate_bytes) 0))

-- replies

both : (a b : Bool) → (a && b) ≡ true → (a ≡ true) × (b ≡ true)
both true true h = (refl, refl)
both true false h = cc
both false b h = cc

join : (a b : Bool) → a ≡ true → b ≡ true → (a && b) ≡ true
join a b p q = ap (λ x. x && b) p ∙ q

none_is : (o : Option (List ℕ)) → is_none o ≡ true → o ≡ None
none_is None h = refl
none_is (Some us) h = cc

is_none_of : (o : Option (List ℕ)) → o ≡ None → is_none o ≡ true
is_none_of None h = refl
is_none_of (Some us) h = cc

-- a text by its test, and its test by it
units_of : (us : List ℕ) → list_all (λ u. nat_lt 0 u && nat_lt u (2 ^ 16)) us ≡ true → AllByRecursion (λ u. 0 < u) us × AllByRecursion (λ u. u < 2 ^ 16) us
units_of [] h = (tt, tt)
units_of (u ∷ us) h =
    let two = both (nat_lt 0 u && nat_lt u (2 ^ 16)) (list_all (λ v. nat_lt 0 v && nat_lt v (2 ^ 16)) us) h in
    let here = both (nat_lt 0 u) (nat_lt u (2 ^ 16)) two.0 in
    let rest = units_of us two.1 in
    let low : 0 < u = grind (arith, nat_tests, here.0) in
    let high : u < 2 ^ 16 = grind (arith, nat_tests, here.1) in
    ((low, rest.0), (high, rest.1))

units_test : (us : List ℕ) → AllByRecursion (λ u. 0 < u) us → AllByRecursion (λ u. u < 2 ^ 16) us → list_all (λ u. nat_lt 0 u && nat_lt u (2 ^ 16)) us ≡ true
units_test [] low high = refl
units_test (u ∷ us) low high =
    let one : nat_lt 0 u ≡ true = grind (arith, nat_tests, low.0) in
    let two : nat_lt u (2 ^ 16) ≡ true = grind (arith, nat_tests, high.0) in
    join (nat_lt 0 u && nat_lt u (2 ^ 16)) (list_all (λ v. nat_lt 0 v && nat_lt v (2 ^ 16)) us) (join (nat_lt 0 u) (nat_lt u (2 ^ 16)) one two) (units_test us low.1 high.1)

text_of : (min max : ℕ) (us : List ℕ) → is_text min max us ≡ true → IsText min max us
text_of min max us h =
    let two = both (nat_le min (length us) && nat_le (length us) max) (list_all (λ u. nat_lt 0 u && nat_lt u (2 ^ 16)) us) h in
    let sizes = both (nat_le min (length us)) (nat_le (length us) max) two.0 in
    let units = units_of us two.1 in
    let least : min ≤ length us = grind (arith, nat_tests, sizes.0) in
    let most : length us ≤ max = grind (arith, nat_tests, sizes.1) in
    record { least = least; most = most; each = units.0; fits = units.1 }

text_test : (min max : ℕ) (us : List ℕ) → IsText min max us → is_text min max us ≡ true
text_test min max us text =
    let least : nat_le min (length us) ≡ true = grind (arith, nat_tests, text.least) in
    let most : nat_le (length us) max ≡ true = grind (arith, nat_tests, text.most) in
    join (nat_le min (length us) && nat_le (length us) max) (list_all (λ u. nat_lt 0 u && nat_lt u (2 ^ 16)) us) (join (nat_le min (length us)) (nat_le (length us) max) least most)
    (units_test us text.each text.fits)

part_of : (t : Bool) (min max : ℕ) (part : Option (List ℕ)) → is_part t min max part ≡ true → IsPart t min max part
part_of true min max (Some us) h = text_of min max us h
part_of true min max None h = cc
part_of false min max (Some us) h = cc
part_of false min max None h = tt

part_test : (t : Bool) (min max : ℕ) (part : Option (List ℕ)) → IsPart t min max part → is_part t min max part ≡ true
part_test true min max (Some us) h = text_test min max us h
part_test true min max None h = absurd h
part_test false min max (Some us) h = absurd h
part_test false min max None h = refl

reply_by : (q : Kvp) (r : KvpReply) → has_parts q r ≡ true → r.status < 2 ^ 32 → IsReplyTo q r
reply_by (Get pool key) r h small = let two = both (is_none r.key) (is_part (r.status == 0) 0 1023 r.value) h in (none_is r.key two.0, part_of (r.status == 0) 0 1023 r.value two.1, small)
reply_by (Set pool key value) r h small = let two = both (is_none r.key) (is_none r.value) h in (none_is r.key two.0, none_is r.value two.1, small)
reply_by (Delete pool key) r h small = let two = both (is_none r.key) (is_none r.value) h in (none_is r.key two.0, none_is r.value two.1, small)
reply_by (Enum pool index) r h small =
    let two = both (is_part (r.status == 0) 1 255 r.key) (is_part (r.status == 0) 0 1023 r.value) h in
    (part_of (r.status == 0) 1 255 r.key two.0, part_of (r.status == 0) 0 1023 r.value two.1, small)

parts_test : (q : Kvp) (r : KvpReply) → IsReplyTo q r → (has_parts q r ≡ true) × (r.status < 2 ^ 32)
parts_test (Get pool key) r h = (join (is_none r.key) (is_part (r.status == 0) 0 1023 r.value) (is_none_of r.key h.0) (part_test (r.status == 0) 0 1023 r.value h.1), h.2)
parts_test (Set pool key value) r h = (join (is_none r.key) (is_none r.value) (is_none_of r.key h.0) (is_none_of r.value h.1), h.2)
parts_test (Delete pool key) r h = (join (is_none r.key) (is_none r.value) (is_none_of r.key h.0) (is_none_of r.value h.1), h.2)
parts_test (Enum pool index) r h =
    (join (is_part (r.status == 0) 1 255 r.key) (is_part (r.status == 0) 0 1023 r.value) (part_test (r.status == 0) 1 255 r.key h.0) (part_test (r.status == 0) 0 1023 r.value h.1), h.2)

-- each reply of the device fits
pub pair_reply_fits : (q : Kvp) (r : KvpReply) → IsReplyTo q r → pair_fits q r ≡ true
unfolding pair_fits
pair_reply_fits q r h =
    let tests = parts_test q r h in
    let small : nat_lt r.status (2 ^ 32) ≡ true = grind (arith, nat_tests, tests.1) in
    join (has_parts q r) (nat_lt r.status (2 ^ 32)) tests.0 small

-- and no other does
pub pair_reply_is : (q : Kvp) (r : KvpReply) → pair_fits q r ≡ true → IsReplyTo q r
unfolding pair_fits
pair_reply_is q r h =
    let two = both (has_parts q r) (nat_lt r.status (2 ^ 32)) h in
    let small : r.status < 2 ^ 32 = grind (arith, nat_tests, two.1) in
    reply_by q r two.0 small

-- the bytes of an answer

put_bytes : (at w v : ℕ) (b : List ℕ) → IsBytes b → IsBytes (put at w v b)
put_bytes at w v b h = append_bytes (take at b ++ bytes_of w v) (drop (at + w) b) (append_bytes (take at b) (bytes_of w v) (take_bytes at b h) (number_bytes w v)) (drop_bytes (at + w) b h)

replaced_bytes : (at : ℕ) (part b : List ℕ) → IsBytes part → IsBytes b → IsBytes (replaced at part b)
replaced_bytes at part b p h = append_bytes (take at b ++ part) (drop (at + length part) b) (append_bytes (take at b) part (take_bytes at b h) p) (drop_bytes (at + length part) b h)

key_bytes : (op : ℕ) (part : Option (List ℕ)) (b : List ℕ) → IsBytes b → IsBytes (with_part 512 (key_place op) part b)
key_bytes op None b h = h
key_bytes op (Some us) b h =
    let place = key_place op in
    replaced_bytes place.at (field_of 512 us) (put place.size_at 4 (text_size (length us)) b) (from_all (field_of 512 us) (field_bytes 512 us)) (put_bytes place.size_at 4 (text_size (length us)) b h)

value_bytes : (op : ℕ) (part : Option (List ℕ)) (b : List ℕ) → IsBytes b → IsBytes (with_part 2048 (value_place op) part b)
value_bytes op None b h = h
value_bytes op (Some us) b h =
    let place = value_place op in
    replaced_bytes place.at (field_of 2048 us) (put place.size_at 4 (text_size (length us)) b) (from_all (field_of 2048 us) (field_bytes 2048 us)) (put_bytes place.size_at 4 (text_size (length us)) b h)

answer_are_bytes : (b : List ℕ) (r : KvpReply) → IsBytes b → IsBytes (kvp_answer b r)
answer_are_bytes b r h =
    key_bytes (operation_of b) r.key (with_part 2048 (value_place (operation_of b)) r.value (with_result r.status b))
    (value_bytes (operation_of b) r.value (with_result r.status b) (put_bytes 25 1 5 (put 20 4 r.status b) (put_bytes 20 4 r.status b h)))

-- what a packet asks has no fault
record Reads (b : List ℕ) (q : Kvp) : Type 0 where
  long : 28 ≤ length b
  none : fault_of b ≡ None
  same : message_in b ≡ q

reads_by : (l t : Bool) (o : Option KvpFault) (n q : Kvp) → cond ((l && t) && is_none o) (Some n) None ≡ Some q → (l ≡ true) × (o ≡ None) × (n ≡ q)
reads_by true true None n q h = let same : n ≡ q = cc in (refl, refl, same)
reads_by true true (Some e) n q h = cc
reads_by true false o n q h = cc
reads_by false t o n q h = cc

reads_of : (b : List ℕ) (q : Kvp) → pair_asked b ≡ Some q → Reads b q
reads_of b q h =
    let parts = reads_by (nat_le 28 (length b)) (type_of b == 2) (fault_of b) (message_in b) q h in
    let long : 28 ≤ length b = grind (arith, nat_tests, parts.0) in
    record { long = long; none = parts.1; same = parts.2 }

-- what the answer with the device's reply says is that reply
pair_reply_read : (id flags : ℕ) (bs : List ℕ) (q : Kvp) (r : KvpReply) → pair_read (inband_packet id flags bs) ≡ Some q → pair_fits q r ≡ true → pair_result (pair_answer (inband_packet id flags bs) r) ≡ Some r
unfolding pair_read pair_result pair_answer is_inband
pair_reply_read id flags bs q r h fits =
    let p = inband_packet id flags bs in
    let b = content_of p in
    let two = cond_some (is_of 6 p) (pair_asked b) q h in
    let short = short_of 6 id flags bs two.0 in
    let size = length-content 6 id flags bs (lit< tt) in
    let reads = reads_of b q two.1 in
    let reply = pair_reply_is q r fits in
    let carried = subst (λ (m : Kvp). Asks m b) reads.same (asks_if b (content_bytes p) reads.none) in
    let can = reply_fits q b r reads.none reply in
    let bytes = kvp_answer b r in
    let whole : length bytes ≡ length b = answer_size b r reads.long can.1 can.0 in
    let more = replicate {A = ℕ} (8 * words_for (length bytes) - length bytes) 0 in
    let a = inband_packet (id_of p) 0 bytes in
    let comes : is_of 6 a ≡ true = is_of_kept 6 (id_of p) 0 bytes (lit< tt) (omega (arith, whole, size, short)) in
    let says : told_reply (content_of a) ≡ Some r =
    ap told_reply (content_kept 6 (id_of p) 0 bytes (lit< tt) (answer_are_bytes b r (content_bytes p))) ∙ answer_back q b more r reads.long can.1 can.0 carried reply in
    ap (λ t. cond t (told_reply (content_of a)) None) comes ∙ says

-- a packet that asks the device is a message that may be answered by any reply
pub pair_carries : (p : List ℕ) (q : Kvp) → pair_read p ≡ Some q → (is_inband p ≡ true) × (28 ≤ length (content_of p)) × (fault_of (content_of p) ≡ None)
unfolding pair_read
pair_carries p q h =
    let two = cond_some (is_inband p) (pair_asked (content_of p)) q h in
    let reads = reads_of (content_of p) q two.1 in
    (two.0, reads.long, reads.none)

-- a message that is refused asks nothing, and what is none is served

refused_when : (t : Bool) (o : Option KvpFault) (fault : KvpFault) (n : Kvp) → o ≡ Some fault → cond (t && is_none o) (Some n) None ≡ None
refused_when true None fault n is = cc
refused_when true (Some e) fault n is = refl
refused_when false o fault n is = refl

none_if : (t : Bool) (o : Option Kvp) → o ≡ None → cond t o None ≡ None
none_if true o none = none
none_if false o none = refl

pub refused_nothing : (p : List ℕ) (fault : KvpFault) → is_pair_message (content_of p) ≡ true → fault_of (content_of p) ≡ Some fault → (pair_read p ≡ None) × (pair_fixed p ≡ inband_packet (id_of p) 0 (kvp_answer (content_of p) (told 0x8007_0057)))
unfolding pair_read pair_fixed
refused_nothing p fault is refused =
    let b = content_of p in (
      none_if (is_inband p) (pair_asked b) (refused_when (is_pair_message b) (fault_of b) fault (message_in b) refused),
      ap (λ t. inband_packet (id_of p) 0 (cond t (kvp_answer b (told 0x8007_0057)) (utility_answer KindKvp b))) is,
    )

pub other_served : (p : List ℕ) → is_pair_message (content_of p) ≡ false → (pair_read p ≡ None) × (pair_fixed p ≡ served_packet (id_of p) KindKvp (content_of p))
unfolding pair_read pair_fixed
other_served p not =
    let b = content_of p in (
      none_if (is_inband p) (pair_asked b) (ap (λ t. cond (t && is_none (fault_of b)) (Some (message_in b)) None) not),
      ap (λ t. inband_packet (id_of p) 0 (cond t (kvp_answer b (told 0x8007_0057)) (utility_answer KindKvp b))) not,
    )

-- the channel keeps to the laws of a wire format

id_pair : (id : ℕ) (a : Want KvpStep Kvp) → id_of (pair_encode id a) ≡ id
id_pair id (Step s) = refl
id_pair id (Request m) = refl

id_pair_fixed : (p : List ℕ) → id_of (pair_fixed p) ≡ id_of p
unfolding pair_fixed
id_pair_fixed p = refl

id_pair_answer : (p : List ℕ) (r : KvpReply) → id_of (pair_answer p r) ≡ id_of p
unfolding pair_answer
id_pair_answer p r = refl

pair_waits : (id : ℕ) (a : Want KvpStep Kvp) → is_inband (pair_encode id a) ≡ is_inband (pair_encode 0 a)
pair_waits id (Step s) = inband_any id 0 negotiate_bytes
pair_waits id (Request m) = inband_any id 0 (kvp_bytes m)

pair_alike : (id : ℕ) (a : Want KvpStep Kvp) → pair_read (pair_encode id a) ≡ pair_read (pair_encode 0 a)
pair_alike id (Step s) = pair_any id 0 negotiate_bytes
pair_alike id (Request m) = pair_any id 0 (kvp_bytes m)

pair_unread : (p : List ℕ) → is_inband p ≡ false → pair_read p ≡ None
unfolding pair_read
pair_unread p not = rw not refl

pair_reads : (id : ℕ) (a : Want KvpStep Kvp) (q : Kvp) (r : KvpReply) → pair_read (pair_encode id a) ≡ Some q → pair_fits q r ≡ true → pair_result (pair_answer (pair_encode id a) r) ≡ Some r
pair_reads id (Step s) q r h fits = pair_reply_read id 0 negotiate_bytes q r h fits
pair_reads id (Request m) q r h fits = pair_reply_read id 0 (kvp_bytes m) q r h fits

pair_sound : Sound pair_codec
pair_sound = record {
  id_encoded = id_pair;
  id_fixed = λ i. id_pair_fixed i.packet;
  id_answer = λ i r. id_pair_answer i.packet r;
  waits_alike = pair_waits;
  read_alike = pair_alike;
  unread = λ i not. pair_unread i.packet not;
  closes = λ i r. refl;
  closes_fixed = λ i. refl;
  reads = pair_reads;
}

pub pair_kept : KeepsWire kvp_model CanBeAsked
pair_kept = codec_kept pair_codec false (λ subs lists. kvp_model.steps subs lists) CanBeAsked (record {
  sound = pair_sound;
  paged = λ lends. cc;
  ids = λ i. refl;
  few = λ subs lists. omega arith;
  same = λ subs lists others. refl;
  fixed = λ id s. pair_start_read id;
  waits = λ s. start_waits 0;
  asked = pair_ask_read;
})

-- what is written

-- what goes back for a packet, by whether it is in-band, and whether it asks the service
fixed_so : (p : List ℕ) (inband asks : Bool) → is_inband p ≡ inband → is_some (pair_read p) ≡ asks → fixed_back pair_codec (bare_item p) ≡ cond inband (cond asks None (Some (alone (bare_item (pair_fixed p))))) None
fixed_so p false asks inband is = ap (λ b. cond (b && is_none (pair_read p)) (Some (alone (bare_item (pair_fixed p)))) None) inband
fixed_so p true asks inband is =
    ap (λ b. cond (b && is_none (pair_read p)) (Some (alone (bare_item (pair_fixed p)))) None) inband ∙ by_read (pair_read p) asks is
  where
    by_read : (o : Option Kvp) (asks : Bool) → is_some o ≡ asks → cond (is_none o) (Some (alone (bare_item (pair_fixed p)))) None ≡ cond asks None (Some (alone (bare_item (pair_fixed p))))
    by_read None true is = cc
    by_read None false is = refl
    by_read (Some q) true is = refl
    by_read (Some q) false is = cc

-- nothing goes back for what has no answer, and for what asks the service
pub no_answer : (p ws : List ℕ) → is_inband p ≡ false → LaysSome said_item [] [] 0 (answer_in (fixed_back pair_codec (said_item (item_of p ws))))
no_answer p ws not = subst (λ o. LaysSome said_item [] [] 0 (answer_in o)) (sym (fixed_so p false _ not refl)) refl

pub asks_service : (p ws : List ℕ) → is_inband p ≡ true → is_some (pair_read p) ≡ true → LaysSome said_item [] [] 0 (answer_in (fixed_back pair_codec (said_item (item_of p ws))))
asks_service p ws inband asks = subst (λ o. LaysSome said_item [] [] 0 (answer_in o)) (sym (fixed_so p true true inband asks)) refl

pub fixed_answer : (p out ws : List ℕ) → is_inband p ≡ true → is_some (pair_read p) ≡ false → out ≡ pair_fixed p → LaysSome said_item out [] 0 (answer_in (fixed_back pair_codec (said_item (item_of p ws))))
unfolding pair_fixed
fixed_answer p out ws inband asks written =
    subst (λ o. LaysSome said_item out [] 0 (answer_in o)) (sym (fixed_so p true false inband asks))
    (subst (λ x. 0 < length x) (sym written) (omega arith), λ i lays. bare_so out [] 0 i (bare_item (pair_fixed p)) refl (ap bare_item written) lays)
