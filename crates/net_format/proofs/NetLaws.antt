-- Network messages in packets, and the messages that an adapter is asked and gives.
use Rattle.std.proofs.Common.{◌≡◌, ℕ, ◌-◌, ◌*◌, ◌^◌, ◌<◌, ◌≤◌, ◌==◌, Bool, true, false, cond, ◌&&◌, ◌||◌, nat_lt, List, [], ◌∷◌, ◌++◌, length, replicate, Option, Some, None, Ok, refl, sym, ap, subst, ◌∙◌, length-append, lit<, arith}
use Rattle.std.specs.Prelude.{nat_le, IfSome}
use Rattle.std.specs.List.{AllByRecursion, list_all}
use Rattle.std.proofs.lemmas.Bool.Decides.{nat_tests}
use Rattle.std.proofs.lemmas.List.{length-replicate}
use Rattle.wire_table.specs.Rows.{Row, num, raw, nums, spelled_after, bytes_in}
use Rattle.wire_table.proofs.RowLaws.{IsBytes, all_bytes, length-spelled_after}
use Rattle.vm_page.specs.Words.{words_for}
use Rattle.pkt_desc.specs.Packets.{kind_of, plain_packet, inband_packet, completion_packet}
use Rattle.rndis_msg.specs.declared.rndis.Rndis.{Rndis}
use Rattle.rndis_msg.specs.declared.rndis.Rndis.TheVariants.{Packet, Query, QueryComplete, Set, Reset, Keepalive}
use Rattle.rndis_msg.specs.Types.{fixed_part, number_of_type}
use Rattle.rndis_msg.specs.Messages.{type_of as rndis_type, values_of, body_of}
use Rattle.rndis_msg.specs.Grammar.{rows_of, words_of, rndis_bytes, InForm as IsRndisForm}
use Rattle.rndis_msg.proofs.WriteLaws.{length-written}
use Rattle.net_dev.specs.declared.nvsp.Nvsp.{Nvsp}
use Rattle.net_dev.specs.declared.nvsp.Nvsp.TheVariants.{Init, InitComplete, NdisVersion, RndisPacketComplete}
use Rattle.net_dev.specs.declared.reply.NetReply.{NetReply}
use Rattle.net_dev.specs.Nvsp.{type_of, fields_of, kinds_of, size_of_fields, field_bytes, nvsp_bytes, type_in, InForm, IsNvsp}
use Rattle.net_dev.specs.Station.{initialize_reply, status_for, IsBack as StationBack, Keeps as StationKeeps}
use Rattle.net_dev.proofs.NvspLaws.{written, type_fits, fields_within}
use Rattle.device_packets.specs.Packets.{is_of, is_inband, content_of}
use Rattle.net_format.specs.Nets.{has_nvsp, is_init, tells_receive, tells_send, carries_rndis, is_version, init_answer, asked_by, in_form, back_in_form, net_fits, with_id, can_ask, is_request_type, request_id_of, initialize_of}
use Rattle.device_packets.proofs.ByteLaws.{from_all, append_bytes, number_bytes, zero_bytes, all_from_test, test_from_all}
use Rattle.device_packets.proofs.PacketLaws.{kind_plain, content_kept, is_of_kept, length-content, by_test}

-- tests

pub both : (a b : Bool) → (a && b) ≡ true → (a ≡ true) × (b ≡ true)
both true true h = (refl, refl)
both true false h = cc
both false b h = cc

pub neither : (a b : Bool) → (a || b) ≡ false → (a ≡ false) × (b ≡ false)
neither false false h = (refl, refl)
neither false true h = cc
neither true b h = cc

pub other_one : (a b : Bool) → (a || b) ≡ true → a ≡ false → b ≡ true
other_one false b h no_first = h
other_one true b h no_first = cc

and_false : (b : Bool) → (b && false) ≡ false
and_false true = refl
and_false false = refl

below_all : (n : ℕ) (xs : List ℕ) → list_all (λ v. nat_lt v n) xs ≡ true → AllByRecursion (λ v. v < n) xs
below_all n [] h = tt
below_all n (x ∷ xs) h =
    let two = both (nat_lt x n) (list_all (λ v. nat_lt v n) xs) h in
    (grind (arith, nat_tests, two.0), below_all n xs two.1)

-- bytes

EachNum : List Row → Type 0
EachNum [] = Unit {0}
EachNum (num w v ∷ rs) = EachNum rs
EachNum (raw bs ∷ rs) = ⊥

pub none_bytes : IsBytes []
none_bytes = λ i. omega arith

nums_bytes : (front : List ℕ) (rs : List Row) → IsBytes front → EachNum rs → IsBytes (spelled_after front rs)
unfolding EachNum
nums_bytes front [] h e = h
nums_bytes front (num w v ∷ rs) h e = nums_bytes (front ++ bytes_in (num w v)) rs (append_bytes front (bytes_in (num w v)) h (number_bytes w v)) e
nums_bytes front (raw bs ∷ rs) h e = absurd e

each_field : (n : Nvsp) → EachNum (num 4 (type_of n) ∷ fields_of n)
unfolding EachNum
each_field (Init min max) = tt
each_field n = tt

pub nvsp_are_bytes : (n : Nvsp) → IsBytes (nvsp_bytes n)
nvsp_are_bytes n = append_bytes (field_bytes n) (replicate (40 - size_of_fields n) 0) (nums_bytes [] (num 4 (type_of n) ∷ fields_of n) none_bytes (each_field n)) (zero_bytes (40 - size_of_fields n))

pub length-nvsp : (n : Nvsp) → InForm n → length (nvsp_bytes n) ≡ 40
length-nvsp n form =
    let fields : length (field_bytes n) ≡ size_of_fields n = length-spelled_after (nums 4 ∷ kinds_of (type_of n)) (num 4 (type_of n) ∷ fields_of n) ((refl, type_fits n), form) in
    omega (arith, fields, fields_within n, length-append (field_bytes n) (replicate (40 - size_of_fields n) 0), length-replicate {A = ℕ} (40 - size_of_fields n) 0)

each_row : (ns : List ℕ) → EachNum (rows_of ns)
unfolding EachNum
each_row [] = tt
each_row (n ∷ ns) = each_row ns

words_are_bytes : (ns : List ℕ) → IsBytes (spelled_after [] (rows_of ns))
words_are_bytes ns = nums_bytes [] (rows_of ns) none_bytes (each_row ns)

pub rndis_are_bytes : (m : Rndis) → IsBytes (body_of m) → IsBytes (rndis_bytes m)
unfolding rndis_bytes
rndis_are_bytes (Packet body) h = append_bytes (spelled_after [] (rows_of (words_of (Packet body)))) body (words_are_bytes (words_of (Packet body))) h
rndis_are_bytes (Query request_id oid body) h = append_bytes (spelled_after [] (rows_of (words_of (Query request_id oid body)))) body (words_are_bytes (words_of (Query request_id oid body))) h
rndis_are_bytes (QueryComplete request_id status body) h = append_bytes (spelled_after [] (rows_of (words_of (QueryComplete request_id status body)))) body (words_are_bytes (words_of (QueryComplete request_id status body))) h
rndis_are_bytes (Set request_id oid body) h = append_bytes (spelled_after [] (rows_of (words_of (Set request_id oid body)))) body (words_are_bytes (words_of (Set request_id oid body))) h
rndis_are_bytes m h = words_are_bytes (words_of m)

pub fixed_few : (m : Rndis) → fixed_part (rndis_type m) ≤ 52
fixed_few (Packet body) = omega arith
fixed_few m = omega arith

-- a message in form

pub record Formed (m : Rndis) : Type 0 where
  pub form : IsRndisForm m
  pub bytes : IsBytes (body_of m)

pub formed : (m : Rndis) → in_form m ≡ true → Formed m
unfolding in_form
formed m h =
    let one = both (list_all (λ v. nat_lt v (2 ^ 32)) (values_of m)) (nat_le (length (body_of m)) 1514 && list_all (λ b. nat_lt b 256) (body_of m)) h in
    let two = both (nat_le (length (body_of m)) 1514) (list_all (λ b. nat_lt b 256) (body_of m)) one.1 in
    record {
      form = record { fields = below_all (256 ^ 4) (values_of m) one.0; few = grind (arith, nat_tests, two.0) };
      bytes = from_all (body_of m) (all_from_test (body_of m) two.1);
    }

-- the zeros that fill the last word
zeros_after : List ℕ → List ℕ
zeros_after bs = replicate (8 * words_for (length bs) - length bs) 0

-- the network message alone
pub begins : (kind id flags : ℕ) (n : Nvsp) → kind < 2 ^ 16 → InForm n → IsNvsp n (content_of (plain_packet kind id flags (nvsp_bytes n)))
unfolding zeros_after
begins kind id flags n small form =
    subst (IsNvsp n) (sym (content_kept kind id flags (nvsp_bytes n) small (nvsp_are_bytes n))) (written n (zeros_after (nvsp_bytes n)) form)

pub has_kind : (p : List ℕ) (n : Nvsp) (kind : ℕ) → IsNvsp n (content_of p) → has_nvsp kind p ≡ (type_of n == kind)
unfolding has_nvsp
has_kind p n kind is =
    let le = is.long in
    let long : nat_le 40 (length (content_of p)) ≡ true = grind (arith, nat_tests, le) in
    ap (λ b. b && (type_in (content_of p) == kind)) long ∙ ap (λ k. k == kind) is.kind

pub is_plain : (kind id flags : ℕ) (n : Nvsp) → kind < 2 ^ 16 → InForm n → is_of kind (plain_packet kind id flags (nvsp_bytes n)) ≡ true
is_plain kind id flags n small form = is_of_kept kind id flags (nvsp_bytes n) small (omega (arith, length-nvsp n form))

-- what the tests say of an in-band packet with a message of this type
pub record IsOfType (p : List ℕ) (k : ℕ) : Type 0 where
  pub init : is_init p ≡ (k == 1)
  pub receive : tells_receive p ≡ (k == 101)
  pub send : tells_send p ≡ (k == 104)
  pub carries : carries_rndis p ≡ (k == 107)

pub of_type : (p : List ℕ) (n : Nvsp) → is_inband p ≡ true → IsNvsp n (content_of p) → IsOfType p (type_of n)
unfolding is_init tells_receive tells_send carries_rndis
of_type p n inband is = record {
  init = ap (λ t. t && has_nvsp 1 p) inband ∙ has_kind p n 1 is;
  receive = ap (λ t. t && has_nvsp 101 p) inband ∙ has_kind p n 101 is;
  send = ap (λ t. t && has_nvsp 104 p) inband ∙ has_kind p n 104 is;
  carries = ap (λ t. t && has_nvsp 107 p) inband ∙ has_kind p n 107 is;
}

pub sent_type : (id flags : ℕ) (n : Nvsp) → InForm n → IsOfType (inband_packet id flags (nvsp_bytes n)) (type_of n)
unfolding is_inband
sent_type id flags n form = of_type (inband_packet id flags (nvsp_bytes n)) n (is_plain 6 id flags n (lit< tt) form) (begins 6 id flags n (lit< tt) form)

-- the bytes of a packet with a network message alone are 40
pub forty : (kind id flags : ℕ) (n : Nvsp) → kind < 2 ^ 16 → InForm n → length (content_of (plain_packet kind id flags (nvsp_bytes n))) ≡ 40
forty kind id flags n small form = omega (arith, length-content kind id flags (nvsp_bytes n) small, length-nvsp n form)

-- forms

pub init_form : InForm (Init 0x5_0000 0x5_0000)
init_form = ((refl, lit< tt), ((refl, lit< tt), tt))

pub ndis_form : InForm (NdisVersion 6 30)
ndis_form = ((refl, lit< tt), ((refl, lit< tt), tt))

pub done_form : (status : ℕ) → status < 2 ^ 32 → InForm (RndisPacketComplete status)
done_form status small = ((refl, small), tt)

either_or : (a b : Bool) → (a || b) ≡ true → a ≡ false → b ≡ true
either_or false b h none = h
either_or true b h none = cc

version_small : (v : ℕ) → is_version v ≡ true → v < 256 ^ 4
version_small v h =
    by_test (v == 2)
    (λ e. let is : v ≡ 2 = grind (arith, nat_tests, e) in omega (arith, is))
    (λ e. let rest = either_or (v == 2) ((v == 0x3_0002) || ((v == 0x4_0000) || (v == 0x5_0000))) (sym (shape v) ∙ h) e in
    by_test (v == 0x3_0002)
    (λ f. let is : v ≡ 0x3_0002 = grind (arith, nat_tests, f) in omega (arith, is))
    (λ f. let more = either_or (v == 0x3_0002) ((v == 0x4_0000) || (v == 0x5_0000)) rest f in
    by_test (v == 0x4_0000)
    (λ g. let is : v ≡ 0x4_0000 = grind (arith, nat_tests, g) in omega (arith, is))
    (λ g. let last = either_or (v == 0x4_0000) (v == 0x5_0000) more g in let is : v ≡ 0x5_0000 = grind (arith, nat_tests, last) in omega (arith, is))))
  where
    turned : (a b c d : Bool) → (a || b || c || d) ≡ (a || (b || (c || d)))
    turned true b c d = refl
    turned false true c d = refl
    turned false false true d = refl
    turned false false false d = refl

    shape : (v : ℕ) → is_version v ≡ ((v == 2) || ((v == 0x3_0002) || ((v == 0x4_0000) || (v == 0x5_0000))))
    shape v = turned (v == 2) (v == 0x3_0002) (v == 0x4_0000) (v == 0x5_0000)

pub answer_form : (min max : ℕ) → InForm (init_answer min max)
answer_form min max =
    by_test (is_version max && nat_le min max)
    (λ e. subst InForm (sym (ap (λ t. cond t (InitComplete max 1 1) (InitComplete 0 0 2)) e)) ((refl, version_small max (both (is_version max) (nat_le min max) e).0), ((refl, lit< tt), ((refl, lit< tt), tt))))
    (λ e. subst InForm (sym (ap (λ t. cond t (InitComplete max 1 1) (InitComplete 0 0 2)) e)) ((refl, lit< tt), ((refl, lit< tt), ((refl, lit< tt), tt))))

pub start_formed : (id : ℕ) → Formed (initialize_of id)
start_formed id = record {
  form = record { fields = (omega arith, (lit< tt, (lit< tt, (lit< tt, tt)))); few = omega arith };
  bytes = none_bytes;
}

-- a message in form has few bytes
pub few_bytes : (m : Rndis) → Formed m → length (rndis_bytes m) ≤ 1600
few_bytes m f = omega (arith, length-written m f.form, fixed_few m, f.form.few)

-- the messages that can be asked

pub asked_formed : (m : Rndis) (id : ℕ) → is_request_type m ≡ true → Formed m → Formed (with_id (request_id_of id) m)
asked_formed (Packet body) id t f = f
asked_formed (Query request_id oid body) id t f = record { form = record { fields = (omega arith, f.form.fields.1); few = f.form.few }; bytes = f.bytes }
asked_formed (Set request_id oid body) id t f = record { form = record { fields = (omega arith, f.form.fields.1); few = f.form.few }; bytes = f.bytes }
asked_formed Reset id t f = f
asked_formed (Keepalive request_id) id t f = record { form = record { fields = (omega arith, tt); few = f.form.few }; bytes = f.bytes }
asked_formed m id t f = absurd (let bad : false ≡ true = t in cc)

pub asked_self : (m : Rndis) (id : ℕ) → is_request_type m ≡ true → asked_by (Ok (with_id (request_id_of id) m)) ≡ Some (with_id (request_id_of id) m)
asked_self (Packet body) id t = refl
asked_self (Query request_id oid body) id t = refl
asked_self (Set request_id oid body) id t = refl
asked_self Reset id t = refl
asked_self (Keepalive request_id) id t = refl
asked_self m id t = absurd (let bad : false ≡ true = t in cc)

pub asks_parts : (m : Rndis) → can_ask m ≡ true → (is_request_type m ≡ true) × Formed m
unfolding can_ask
asks_parts m h = let two = both (is_request_type m) (in_form m) h in (two.0, formed m two.1)

-- types

pub is_six : (id flags : ℕ) (bs : List ℕ) → (kind_of (inband_packet id flags bs) == 6) ≡ true
is_six id flags bs = let kind = kind_plain 6 id flags bs (lit< tt) in grind (arith, nat_tests, kind)

pub six_other : (id flags : ℕ) (bs : List ℕ) → (kind_of (inband_packet id flags bs) == 11) ≡ false
six_other id flags bs = let kind = kind_plain 6 id flags bs (lit< tt) in grind (arith, nat_tests, kind)

pub is_eleven : (id : ℕ) (bs : List ℕ) → (kind_of (completion_packet id bs) == 11) ≡ true
is_eleven id bs = let kind = kind_plain 11 id 0 bs (lit< tt) in grind (arith, nat_tests, kind)

pub eleven_other : (id : ℕ) (bs : List ℕ) → (kind_of (completion_packet id bs) == 6) ≡ false
eleven_other id bs = let kind = kind_plain 11 id 0 bs (lit< tt) in grind (arith, nat_tests, kind)

pub not_both_types : (k : ℕ) → (k == 11) ≡ true → (k == 6) ≡ false
not_both_types k h = let is : k ≡ 11 = grind (arith, nat_tests, h) in grind (arith, nat_tests, is)

pub fits_parts : (q : Rndis) (r : NetReply) → net_fits q r ≡ true → (r.status < 2 ^ 32) × (back_in_form r.back ≡ true)
unfolding net_fits
fits_parts q r h = let two = both (nat_lt r.status (2 ^ 32)) (back_in_form r.back) h in (grind (arith, nat_tests, two.0), two.1)

-- the adapter's own replies fit

fields_fit : (vs : List ℕ) → AllByRecursion (λ v. v < 256 ^ 4) vs → list_all (λ v. nat_lt v (2 ^ 32)) vs ≡ true
fields_fit [] h = refl
fields_fit (v ∷ vs) h =
    let less = h.0 in
    let one : nat_lt v (2 ^ 32) ≡ true = grind (arith, nat_tests, less) in
    rw (one, fields_fit vs h.1) refl

pub formed_test : (m : Rndis) → IsRndisForm m → AllByRecursion (λ b. b < 256) (body_of m) → in_form m ≡ true
unfolding in_form
formed_test m form bytes =
    let most = form.few in
    let few : nat_le (length (body_of m)) 1514 ≡ true = grind (arith, nat_tests, most) in
    rw (fields_fit (values_of m) form.fields, few, test_from_all (body_of m) bytes) refl

back_fits : (q : Rndis) (back : Option Rndis) → IfSome back (StationBack q) → back_in_form back ≡ true
back_fits q None h = refl
back_fits q (Some m) h = formed_test m h.form h.bytes

status_small : (m : Rndis) → status_for m < 2 ^ 32
status_small m = by_test (nat_lt 0x8000_0000 (number_of_type (rndis_type m)))
    (λ e. omega (arith, ap (λ t. cond {A = ℕ} t 2 1) e))
    (λ e. omega (arith, ap (λ t. cond {A = ℕ} t 2 1) e))

pub station_fits : (q : Rndis) (r : NetReply) → StationKeeps (Ok q) r → net_fits q r ≡ true
unfolding net_fits
station_fits q r keeps =
    let is = keeps.0 in
    let small = status_small q in
    let low : nat_lt r.status (2 ^ 32) ≡ true = grind (arith, nat_tests, is, small) in
    rw (low, back_fits q r.back keeps.1) refl

-- the messages of the start-up are in form
pub initialize_formed : (id : ℕ) → in_form (initialize_of id) ≡ true
initialize_formed id = formed_test (initialize_of id) (start_formed id).form tt

pub complete_formed : (request_id : ℕ) → request_id < 2 ^ 32 → in_form (initialize_reply request_id) ≡ true
complete_formed request_id small = formed_test (initialize_reply request_id) (record { fields = (small, (lit< tt, (lit< tt, (lit< tt, (lit< tt, (lit< tt, (lit< tt, (lit< tt, (lit< tt, tt))))))))); few = omega arith }) tt

pub asked_in_form : (m : Rndis) (id : ℕ) → can_ask m ≡ true → in_form (with_id (request_id_of id) m) ≡ true
asked_in_form m id can =
    let two = asks_parts m can in
    let f = asked_formed m id two.0 two.1 in
    formed_test (with_id (request_id_of id) m) f.form (all_bytes (body_of (with_id (request_id_of id) m)) f.bytes)
