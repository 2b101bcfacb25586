-- Packets that lend a section of the send buffer, or a page of the receive buffer: what is read of them, and the page that they lend. And network messages that lend none.
use Rattle.std.proofs.Common.{◌≡◌, ◌≢◌, ℕ, zero, suc, ◌+◌, ◌-◌, ◌*◌, ◌/◌, ◌%◌, ◌^◌, ◌<◌, ◌≤◌, ◌==◌, Bool, true, false, ◌&&◌, List, [], ◌∷◌, ◌++◌, length, drop, take, min, replicate, Option, Some, None, refl, sym, ap, subst, ◌∙◌, lit<, lit≤, arith}
use Rattle.std.specs.Prelude.{nat_le, nat_lt, slice_index}
use Rattle.std.proofs.lemmas.Bool.Decides.{nat_tests}
use Rattle.wire_table.specs.Little.{bytes_of}
use Rattle.vm_page.specs.Words.{words_for, words_of, words_from, number_of, bytes_in}
use Rattle.vm_page.proofs.WordLaws.{length-words_from, bytes_in-words_from}
use Rattle.net_dev.specs.declared.nvsp.Nvsp.{Nvsp}
use Rattle.net_dev.specs.declared.nvsp.Nvsp.TheVariants.{Init, RndisPacket}
use Rattle.net_dev.specs.Nvsp.{type_of, nvsp_bytes, InForm, IsNvsp}
use Rattle.net_dev.proofs.NvspLaws.{written}
use Rattle.pkt_desc.specs.Packets.{kind_in, offset8_of, head, kind_of, id_of, payload_of, inband_packet}
use Rattle.pkt_desc.specs.Ranges.{low_32, high_32, range_count}
use Rattle.pkt_desc.specs.Lending.{is_part, loan, buffer_lent, section_lent, lent_of}
use Rattle.pkt_desc.specs.Built.{xfer_packet}
use Rattle.pkt_desc.specs.declared.loan.Lent.{Lent}
use Rattle.device_packets.specs.Packets.{is_of, content_of}
use Rattle.net_format.specs.PageNets.{section_of, section_packet, transfer_packet}
use Rattle.device_packets.proofs.PacketLaws.{kind_plain, payload_kept}
use Rattle.device_packets.proofs.LoanLaws.{first_of, lent_ended, loan_not, loan_true}
use Rattle.net_format.proofs.NetLaws.{length-nvsp, nvsp_are_bytes}

-- the first word of a network message begins with its type

first_type : (n : Nvsp) → number_of (take 8 (nvsp_bytes n)) % 2 ^ 32 ≡ type_of n
unfolding bytes_of number_of
first_type (Init min max) = omega arith
first_type n = omega arith

second_of : (n : ℕ) (bs : List ℕ) → 2 ≤ n → slice_index (words_from n bs) 1 ≡ number_of (take 8 (drop 8 bs))
unfolding words_from
second_of zero bs some = absurd (omega (arith, some))
second_of (suc zero) bs some = absurd (omega (arith, some))
second_of (suc (suc n)) bs some = refl

-- and the second one of a message with a section is that, and how many bytes it has
section_word : (c s n : ℕ) → s < 64 → n ≤ 4096 → number_of (take 8 (drop 8 (nvsp_bytes (RndisPacket c s n)))) ≡ s + n * 2 ^ 32
unfolding bytes_of number_of
section_word c s n low few = omega (arith, low, few)

-- in-band packets with a network message

words_five : (n : Nvsp) → InForm n → words_for (length (nvsp_bytes n)) ≡ 5
words_five n form = ap words_for (length-nvsp n form)

first_is : (n : Nvsp) → InForm n → slice_index (words_of (nvsp_bytes n)) 0 % 2 ^ 32 ≡ type_of n
first_is n form = let len = words_five n form in ap (λ w. w % 2 ^ 32) (first_of (words_for (length (nvsp_bytes n))) (nvsp_bytes n) (omega (arith, len))) ∙ first_type n

sent_offset : (id flags : ℕ) (bs : List ℕ) → offset8_of (slice_index (inband_packet id flags bs) 0) ≡ 2
sent_offset id flags bs = let e : offset8_of (head 6 2 (2 + words_for (length bs)) flags) ≡ 2 = omega arith in e

-- one that isn't of a Remote NDIS message lends nothing
pub other_lends : (id flags : ℕ) (n : Nvsp) → InForm n → type_of n ≢ 107 → lent_of (inband_packet id flags (nvsp_bytes n)) ≡ None
other_lends id flags n form other =
    let bs = nvsp_bytes n in
    let p = inband_packet id flags bs in
    let ws = words_of bs in
    let payload : payload_of p ≡ ws = payload_kept 6 id flags bs (lit< tt) in
    let first = first_is n form in
    let kind : (low_32 (slice_index ws 0) == 107) ≡ false = grind (arith, nat_tests, first, other) in
    let none : section_lent ws ≡ None = loan_not (nat_le 5 (length ws)) (low_32 (slice_index ws 0) == 107) (nat_lt (low_32 (slice_index ws 1)) 64 && is_part (high_32 (slice_index ws 1))) (low_32 (slice_index ws 1)) (high_32 (slice_index ws 1)) kind in
    lent_ended 6 2 2 p None (kind_plain 6 id flags bs (lit< tt)) (sent_offset id flags bs) refl (lit≤ tt) (ap section_lent payload ∙ none)

part_is : (n : ℕ) → 1 ≤ n → n ≤ 4096 → is_part n ≡ true
part_is n some few =
    let above : nat_le 1 n ≡ true = grind (arith, nat_tests, some) in
    let below : nat_le n 4096 ≡ true = grind (arith, nat_tests, few) in
    rw (above, below) refl

section_form : (c s n : ℕ) → c < 256 ^ 4 → s < 64 → n ≤ 4096 → InForm (RndisPacket c s n)
section_form c s n channel low few = ((refl, channel), ((refl, omega (arith, low)), ((refl, omega (arith, few)), tt)))

-- the section that goes with the id, and as many bytes as the message has
pub section_lends : (id c n : ℕ) → id ≤ 64 → 1 ≤ n → n ≤ 4096 → c < 256 ^ 4 → lent_of (section_packet id c n) ≡ Some (record { page = id - 1; bytes = n })
unfolding section_packet
section_lends id c n most some few channel =
    let s = section_of id in
    let own : s ≡ id - 1 = omega (arith, most) in
    let low : s < 64 = omega (arith, own, most) in
    let m = RndisPacket c s n in
    let form = section_form c s n channel low few in
    let bs = nvsp_bytes m in
    let p = inband_packet id 1 bs in
    let ws = words_of bs in
    let five = words_five m form in
    let payload : payload_of p ≡ ws = payload_kept 6 id 1 bs (lit< tt) in
    let first = first_is m form in
    let second : slice_index ws 1 ≡ s + n * 2 ^ 32 = second_of (words_for (length bs)) bs (omega (arith, five)) ∙ section_word c s n low few in
    let page : low_32 (slice_index ws 1) ≡ s = ap low_32 second ∙ omega (arith, low) in
    let bytes : high_32 (slice_index ws 1) ≡ n = ap high_32 second ∙ omega (arith, low) in
    let len : length ws ≡ 5 = length-words_from (words_for (length bs)) bs ∙ five in
    let long : nat_le 5 (length ws) ≡ true = grind (arith, nat_tests, len) in
    let kind : (low_32 (slice_index ws 0) == 107) ≡ true = grind (arith, nat_tests, first) in
    let inside : nat_lt (low_32 (slice_index ws 1)) 64 ≡ true = grind (arith, nat_tests, page, low) in
    let part : is_part (high_32 (slice_index ws 1)) ≡ true = ap is_part bytes ∙ part_is n some few in
    let is : section_lent ws ≡ Some (record { page = low_32 (slice_index ws 1); bytes = high_32 (slice_index ws 1) }) = loan_true (nat_le 5 (length ws)) (low_32 (slice_index ws 0) == 107) (nat_lt (low_32 (slice_index ws 1)) 64) (is_part (high_32 (slice_index ws 1))) (low_32 (slice_index ws 1)) (high_32 (slice_index ws 1)) long kind inside part in
    let F : ℕ → ℕ → Option Lent = λ q b. Some (record { page = q; bytes = b }) in
    lent_ended 6 2 2 p (F (id - 1) n) (kind_plain 6 id 1 bs (lit< tt)) (sent_offset id 1 bs) refl (lit≤ tt)
    (ap section_lent payload ∙ (is ∙ (λ i. F ((page ∙ own) i) (bytes i))))

-- transfers

head_kind : (len8 : ℕ) → kind_in (head 7 4 len8 1) ≡ 7
head_kind len8 = omega arith

head_offset : (len8 : ℕ) → offset8_of (head 7 4 len8 1) ≡ 4
head_offset len8 = omega arith

module _ (own n at : ℕ) (bs : List ℕ) where
  one_range : List ℕ
  one_range = xfer_packet own 0xcafe ((n, at) ∷ []) bs

  range_kind : kind_of (xfer_packet own 0xcafe ((n, at) ∷ []) bs) ≡ 7
  range_kind = head_kind (4 + words_for (length bs))

  range_offset : offset8_of (slice_index (xfer_packet own 0xcafe ((n, at) ∷ []) bs) 0) ≡ 4
  range_offset = head_offset (4 + words_for (length bs))

  range_payload : payload_of (xfer_packet own 0xcafe ((n, at) ∷ []) bs) ≡ words_of bs
  range_payload = ap (λ j. drop j (xfer_packet own 0xcafe ((n, at) ∷ []) bs)) range_offset

  range_length : length (xfer_packet own 0xcafe ((n, at) ∷ []) bs) ≡ 4 + words_for (length bs)
  range_length = omega (arith, length-words_from (words_for (length bs)) bs)

loan_page : (b : Bool) (page bytes : ℕ) (l : Lent) → loan b page bytes ≡ Some l → l.page ≡ page
loan_page true page bytes l h =
    let own : Lent = record { page = page; bytes = bytes } in
    let same : own ≡ l = cc in ap (λ (x : Lent). x.page) (sym same)
loan_page false page bytes l h = absurd (cc)

pub transfer_kind : (own c n : ℕ) → kind_of (transfer_packet own c n) ≡ 7
unfolding transfer_packet
transfer_kind own c n = range_kind own (min n 4096) (4096 * (own - 1)) (nvsp_bytes (RndisPacket c 0xffff_ffff 0))

pub transfer_id : (own c n : ℕ) → id_of (transfer_packet own c n) ≡ own
unfolding transfer_packet
transfer_id own c n = refl

back_form : (c : ℕ) → c < 256 ^ 4 → InForm (RndisPacket c 0xffff_ffff 0)
back_form c channel = ((refl, channel), ((refl, lit< tt), ((refl, lit< tt), tt)))

-- its bytes are those of its network message
pub transfer_begins : (own c n : ℕ) → c < 256 ^ 4 → IsNvsp (RndisPacket c 0xffff_ffff 0) (content_of (transfer_packet own c n))
unfolding transfer_packet content_of
transfer_begins own c n channel =
    let m = RndisPacket c 0xffff_ffff 0 in
    let bs = nvsp_bytes m in
    let rest = replicate (8 * words_for (length bs) - length bs) 0 in
    let shape : bytes_in (payload_of (xfer_packet own 0xcafe ((min n 4096, 4096 * (own - 1)) ∷ []) bs)) ≡ bs ++ rest =
    ap bytes_in (range_payload own (min n 4096) (4096 * (own - 1)) bs) ∙ bytes_in-words_from (words_for (length bs)) bs (nvsp_are_bytes m) (omega arith) in
    subst (IsNvsp m) (sym shape) (written m rest (back_form c channel))

pub transfer_short : (own c n : ℕ) → c < 256 ^ 4 → is_of 7 (transfer_packet own c n) ≡ true
unfolding transfer_packet
transfer_short own c n channel =
    let bs = nvsp_bytes (RndisPacket c 0xffff_ffff 0) in
    let p = xfer_packet own 0xcafe ((min n 4096, 4096 * (own - 1)) ∷ []) bs in
    let is = range_kind own (min n 4096) (4096 * (own - 1)) bs in
    let kind : (kind_of p == 7) ≡ true = grind (arith, nat_tests, is) in
    let len = range_length own (min n 4096) (4096 * (own - 1)) bs in
    let five = words_five (RndisPacket c 0xffff_ffff 0) (back_form c channel) in
    let short : nat_le (length p) 384 ≡ true = grind (arith, nat_tests, len, five) in
    rw (kind, short) refl

-- how it lends: a part that begins the page of its id
transfer_by : (own c n : ℕ) → lent_of (transfer_packet own c n) ≡ buffer_lent (transfer_packet own c n)
unfolding transfer_packet
transfer_by own c n =
    let bs = nvsp_bytes (RndisPacket c 0xffff_ffff 0) in
    let p = xfer_packet own 0xcafe ((min n 4096, 4096 * (own - 1)) ∷ []) bs in
    lent_ended 7 4 4 p (buffer_lent p) (range_kind own (min n 4096) (4096 * (own - 1)) bs) (range_offset own (min n 4096) (4096 * (own - 1)) bs) refl (lit≤ tt) refl

page_of_range : (n own : ℕ) → 1 ≤ own → own ≤ 64 → n ≤ 4096 → 64 + high_32 (n + 4096 * (own - 1) * 2 ^ 32) / 4096 ≡ 63 + own
page_of_range n own one most few = omega (arith, one, most, few)

min_few : (n : ℕ) → min n 4096 ≤ 4096
min_few n = omega arith

pub transfer_lends_own : (own c n : ℕ) (l : Lent) → 1 ≤ own → own ≤ 64 → lent_of (transfer_packet own c n) ≡ Some l → l.page ≡ 63 + own
unfolding transfer_packet
transfer_lends_own own c n l one most h =
    let bs = nvsp_bytes (RndisPacket c 0xffff_ffff 0) in
    let p = xfer_packet own 0xcafe ((min n 4096, 4096 * (own - 1)) ∷ []) bs in
    let w = slice_index p 3 in
    loan_page ((slice_index p 2 % 2 ^ 16 == 0xcafe) && ((range_count p == 1) && (is_part (low_32 w) && ((high_32 w % 4096 == 0) && nat_lt (high_32 w) 262144)))) (64 + high_32 w / 4096) (low_32 w) l (sym (transfer_by own c n) ∙ h)
    ∙ page_of_range (min n 4096) own one most (min_few n)

loan_five : (a b c d e : Bool) (page bytes : ℕ) → a ≡ true → b ≡ true → c ≡ true → d ≡ true → e ≡ true → loan (a && (b && (c && (d && e)))) page bytes ≡ Some (record { page = page; bytes = bytes })
loan_five a b c d e page bytes is_a is_b is_c is_d is_e = rw (is_a, is_b, is_c, is_d, is_e) refl

pub transfer_lends : (own c n : ℕ) → own ≤ 64 → 1 ≤ n → n ≤ 4096 → lent_of (transfer_packet own c n) ≡ Some (record { page = 64 + (own - 1); bytes = n })
unfolding transfer_packet
transfer_lends own c n most some few =
    let bs = nvsp_bytes (RndisPacket c 0xffff_ffff 0) in
    let p = xfer_packet own 0xcafe ((min n 4096, 4096 * (own - 1)) ∷ []) bs in
    let all : min n 4096 ≡ n = omega (arith, few) in
    let w = slice_index p 3 in
    let word : w ≡ n + 4096 * (own - 1) * 2 ^ 32 = ap (λ m. m + 4096 * (own - 1) * 2 ^ 32) all in
    let low : low_32 w ≡ n = ap low_32 word ∙ omega (arith, few) in
    let high : high_32 w ≡ 4096 * (own - 1) = ap high_32 word ∙ omega (arith, few) in
    let set : (slice_index p 2 % 2 ^ 16 == 0xcafe) ≡ true = refl in
    let count : (range_count p == 1) ≡ true = refl in
    let part : is_part (low_32 w) ≡ true = ap is_part low ∙ part_is n some few in
    let whole : (high_32 w % 4096 == 0) ≡ true = grind (arith, nat_tests, high) in
    let inside : nat_lt (high_32 w) 262144 ≡ true = grind (arith, nat_tests, high, most) in
    let page : 64 + high_32 w / 4096 ≡ 64 + (own - 1) = omega (arith, high) in
    let F : ℕ → ℕ → Option Lent = λ q b. Some (record { page = q; bytes = b }) in
    transfer_by own c n
    ∙ (loan_five (slice_index p 2 % 2 ^ 16 == 0xcafe) (range_count p == 1) (is_part (low_32 w)) (high_32 w % 4096 == 0) (nat_lt (high_32 w) 262144) (64 + high_32 w / 4096) (low_32 w) set count part whole inside
    ∙ (λ i. F (page i) (low i)))
