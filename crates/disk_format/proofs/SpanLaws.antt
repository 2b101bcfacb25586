-- Packets of type 9 with one range, that begins a page: what is read of them, and the page that they lend. And packets of a storage packet that lend none.
use Rattle.std.proofs.Common.{◌≡◌, ◌≢◌, ℕ, ◌+◌, ◌-◌, ◌*◌, ◌%◌, ◌^◌, ◌<◌, ◌≤◌, ◌==◌, true, false, ◌&&◌, List, [], ◌∷◌, ◌++◌, length, drop, take, Option, Some, None, refl, sym, ap, ◌∙◌, lit<, lit≤, arith, length-append}
use Rattle.std.specs.Prelude.{nat_le, nat_lt, slice_index}
use Rattle.std.proofs.lemmas.Bool.Decides.{nat_tests}
use Rattle.std.proofs.lemmas.List.{append-nil}
use Rattle.wire_table.specs.Little.{bytes_of}
use Rattle.vm_page.specs.Words.{words_for, words_of, number_of, bytes_in}
use Rattle.vm_page.proofs.WordLaws.{length-words_from}
use Rattle.pkt_desc.specs.Packets.{kind_in, offset8_of, head, kind_of, id_of, payload_of, inband_packet}
use Rattle.pkt_desc.specs.Ranges.{low_32, high_32, range_count, ranges_end, spans_words}
use Rattle.pkt_desc.specs.Lending.{is_part, section_lent, lent_of}
use Rattle.pkt_desc.specs.Built.{gpa_packet}
use Rattle.pkt_desc.specs.declared.loan.Lent.{Lent}
use Rattle.stor_proto.specs.Packets.{vstor_bytes, InForm}
use Rattle.stor_proto.specs.declared.vstor.Vstor.{Vstor}
use Rattle.device_packets.specs.Packets.{content_of}
use Rattle.disk_format.specs.Disks.{sent_packet}
use Rattle.disk_format.specs.PageDisks.{page_front, direct_packet}
use Rattle.device_packets.proofs.LoanLaws.{first_of, lent_ended, loan_not, loan_true}
use Rattle.device_packets.proofs.PacketLaws.{content_any, kind_plain}
use Rattle.disk_format.proofs.VstorLaws.{Formed, in_form, length-vstor}

head_kind : (len8 : ℕ) → kind_in (head 9 5 len8 1) ≡ 9
head_kind len8 = omega arith

head_offset : (len8 : ℕ) → offset8_of (head 9 5 len8 1) ≡ 5
head_offset len8 = omega arith

module _ (id page n : ℕ) (bs : List ℕ) where
  gpa_kind : kind_of (gpa_packet id (page_front page n ∷ []) bs) ≡ 9
  gpa_kind = head_kind (5 + words_for (length bs))

  gpa_offset : offset8_of (slice_index (gpa_packet id (page_front page n ∷ []) bs) 0) ≡ 5
  gpa_offset = head_offset (5 + words_for (length bs))

  gpa_payload : payload_of (gpa_packet id (page_front page n ∷ []) bs) ≡ words_of bs
  gpa_payload = ap (λ j. drop j (gpa_packet id (page_front page n ∷ []) bs)) gpa_offset

  gpa_length : length (gpa_packet id (page_front page n ∷ []) bs) ≡ 5 + words_for (length bs)
  gpa_length = omega (arith, length-words_from (words_for (length bs)) bs)

-- it lends the page that the range begins, and as many bytes as the range has
one_span : (n page : ℕ) (ws : List ℕ) → 1 ≤ n → n ≤ 4096 → spans_words 1 ((n + 0 * 2 ^ 32) ∷ page ∷ ws) ≡ 2
unfolding spans_words
one_span n page ws some few = omega (arith, some, few)

pub gpa_lends : (id page n : ℕ) (bs : List ℕ) → 1 ≤ n → n ≤ 4096 → page < 64 → lent_of (gpa_packet id (page_front page n ∷ []) bs) ≡ Some (record { page = page; bytes = n })
gpa_lends id page n bs some few low =
    let p = gpa_packet id (page_front page n ∷ []) bs in
    let w = n + 0 * 2 ^ 32 in
    let stop : ranges_end 9 p ≡ 5 = ap (λ j. 3 + j) (one_span n page (words_of bs) some few) in
    let len : low_32 w ≡ n = omega (arith, few) in
    let high : (high_32 w == 0) ≡ true = grind (arith, nat_tests, few) in
    let above : nat_le 1 n ≡ true = grind (arith, nat_tests, some) in
    let below : nat_le n 4096 ≡ true = grind (arith, nat_tests, few) in
    let whole : is_part n ≡ true = rw (above, below) refl in
    let part : is_part (low_32 w) ≡ true = ap is_part len ∙ whole in
    let frame : nat_lt page 64 ≡ true = grind (arith, nat_tests, low) in
    lent_ended 9 5 5 p (Some (record { page = page; bytes = n })) (gpa_kind id page n bs) (gpa_offset id page n bs) stop (lit≤ tt)
    (loan_true (range_count p == 1) (high_32 w == 0) (is_part (low_32 w)) (nat_lt page 64) page (low_32 w) refl high part frame
    ∙ ap {B = Option Lent} (λ m. Some (record { page = page; bytes = m })) len)

-- a storage packet in one

pub direct_kind : (id n : ℕ) (v : Vstor) → kind_of (direct_packet id n v) ≡ 9
unfolding direct_packet
direct_kind id n v = gpa_kind id (id - 1) n (vstor_bytes v)

pub direct_id : (id n : ℕ) (v : Vstor) → id_of (direct_packet id n v) ≡ id
unfolding direct_packet
direct_id id n v = refl

pub direct_short : (id n : ℕ) (v : Vstor) → InForm v → length (direct_packet id n v) ≡ 13
unfolding direct_packet
direct_short id n v form = gpa_length id (id - 1) n (vstor_bytes v) ∙ ap (λ m. 5 + words_for m) (length-vstor v form)

-- its bytes are those of an in-band one
pub direct_content : (id n : ℕ) (v : Vstor) → content_of (direct_packet id n v) ≡ content_of (sent_packet 0 v [])
unfolding direct_packet sent_packet content_of
direct_content id n v =
    ap bytes_in (gpa_payload id (id - 1) n (vstor_bytes v)) ∙ sym (content_any 6 0 1 (vstor_bytes v ++ []) (lit< tt) ∙ ap (λ bs. bytes_in (words_of bs)) (append-nil (vstor_bytes v)))

pub direct_lends : (id n : ℕ) (v : Vstor) → 1 ≤ id → id ≤ 64 → 1 ≤ n → n ≤ 4096 → lent_of (direct_packet id n v) ≡ Some (record { page = id - 1; bytes = n })
unfolding direct_packet
direct_lends id n v one most some few = gpa_lends id (id - 1) n (vstor_bytes v) some few (omega (arith, one, most))

-- under whatever id it lends so many words at most
pub direct_lends_any : (id n : ℕ) (v : Vstor) → id ≤ 64 → 1 ≤ n → n ≤ 4096 → lent_of (direct_packet id n v) ≡ Some (record { page = id - 1; bytes = n })
unfolding direct_packet
direct_lends_any id n v most some few = gpa_lends id (id - 1) n (vstor_bytes v) some few (omega (arith, most))

-- an in-band one lends nothing: it begins with its operation, that is no message of a network

first_word : (v : Vstor) (more : List ℕ) → v.operation < 256 ^ 4 → number_of (take 8 (vstor_bytes v ++ more)) % 2 ^ 32 ≡ v.operation
unfolding vstor_bytes bytes_of number_of
first_word v more fits = omega (arith, fits)

pub sent_lends : (id : ℕ) (v : Vstor) → Formed v → v.operation ≢ 107 → lent_of (sent_packet id v []) ≡ None
unfolding sent_packet
sent_lends id v formed other =
    let bs = vstor_bytes v ++ [] in
    let p = inband_packet id 1 bs in
    let len : length bs ≡ 64 = length-append (vstor_bytes v) [] ∙ omega (arith, length-vstor v (in_form v formed)) in
    let offset : offset8_of (slice_index p 0) ≡ 2 = omega arith in
    let payload : payload_of p ≡ words_of bs = ap (λ j. drop j p) offset in
    let first : slice_index (words_of bs) 0 ≡ number_of (take 8 bs) = first_of (words_for (length bs)) bs (omega (arith, len)) in
    let kind : (low_32 (slice_index (words_of bs) 0) == 107) ≡ false = grind (arith, nat_tests, first, first_word v [] formed.operation, other) in
    let none : section_lent (words_of bs) ≡ None = loan_not (nat_le 5 (length (words_of bs))) (low_32 (slice_index (words_of bs) 0) == 107) (nat_lt (low_32 (slice_index (words_of bs) 1)) 64 && is_part (high_32 (slice_index (words_of bs) 1))) (low_32 (slice_index (words_of bs) 1)) (high_32 (slice_index (words_of bs) 1)) kind in
    lent_ended 6 2 2 p None (kind_plain 6 id 1 bs (lit< tt)) offset refl (lit≤ tt) (ap section_lent payload ∙ none)
