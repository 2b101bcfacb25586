-- What a packet lends is inside the channel, and 1 to 512 words.
use Rattle.std.proofs.Common.{◌≡◌, ℕ, ◌+◌, ◌/◌, ◌%◌, ◌^◌, ◌==◌, length, ◌<◌, ◌≤◌, Bool, true, false, ◌&&◌, cond, ltb, List, slice_index, Option, Some, None, refl, sym, ap, ◌∙◌, arith, subst, nat_le, nat_lt}
use Rattle.std.proofs.lemmas.Bool.Decides.{nat_tests}
use Rattle.vm_page.specs.Words.{words_for}
use Rattle.pkt_desc.specs.declared.loan.Lent.{Lent as LentBytes}
use Rattle.pkt_desc.specs.Packets.{kind_of, offset8_of, payload_of}
use Rattle.pkt_desc.specs.Ranges.{low_32, high_32, range_count, ranges_end}
use Rattle.pkt_desc.specs.Lending.{is_part, loan, span_lent, buffer_lent, section_lent, lent_by, lent_of}
use Rattle.page_kept.specs.Layouts.{Loan, loan_in, layout}

-- 1 to 4,096 bytes are lent, where any are
abbrev IsPart : Option LentBytes → Type 0
IsPart None = Unit {0}
IsPart (Some a) = is_part a.bytes ≡ true

right : (a b : Bool) → (a && b) ≡ true → b ≡ true
right true b e = e
right false b e = absurd (cc)

left : (a b : Bool) → (a && b) ≡ true → a ≡ true
left true b e = refl
left false b e = e

loan_part : (holds : Bool) (page bytes : ℕ) → (holds ≡ true → is_part bytes ≡ true) → IsPart (loan holds page bytes)
loan_part true page bytes f = f refl
loan_part false page bytes f = tt

loan_third : (a b d : Bool) (page bytes : ℕ) → IsPart (loan (a && (b && (is_part bytes && d))) page bytes)
loan_third true true d page bytes = loan_part (is_part bytes && d) page bytes (left (is_part bytes) d)
loan_third true false d page bytes = tt
loan_third false b d page bytes = tt

loan_fourth : (a b c : Bool) (page bytes : ℕ) → IsPart (loan (a && (b && (c && is_part bytes))) page bytes)
loan_fourth true true true page bytes = loan_part (is_part bytes) page bytes (λ e. e)
loan_fourth true true false page bytes = tt
loan_fourth true false c page bytes = tt
loan_fourth false b c page bytes = tt

span_part : (p : List ℕ) → IsPart (span_lent p)
span_part p = loan_third (range_count p == 1) (high_32 (slice_index p 3) == 0) (nat_lt (slice_index p 4) 64) (slice_index p 4) (low_32 (slice_index p 3))

buffer_part : (p : List ℕ) → IsPart (buffer_lent p)
buffer_part p =
    loan_third (slice_index p 2 % 2 ^ 16 == 0xcafe) (range_count p == 1) ((high_32 (slice_index p 3) % 4096 == 0) && nat_lt (high_32 (slice_index p 3)) 262144) (64 + high_32 (slice_index p 3) / 4096) (low_32 (slice_index p 3))

section_part : (p : List ℕ) → IsPart (section_lent p)
section_part p = loan_fourth (nat_le 5 (length p)) (low_32 (slice_index p 0) == 107) (nat_lt (low_32 (slice_index p 1)) 64) (low_32 (slice_index p 1)) (high_32 (slice_index p 1))

either : (b : Bool) (x y : Option LentBytes) → IsPart x → IsPart y → IsPart (cond b x y)
either true x y a b = a
either false x y a b = b

by_kind : (kind : ℕ) (p : List ℕ) → IsPart (lent_by kind p)
by_kind kind p =
    either (kind == 6) (section_lent (payload_of p)) (cond (kind == 7) (buffer_lent p) (cond (kind == 9) (span_lent p) None)) (section_part (payload_of p))
    (either (kind == 7) (buffer_lent p) (cond (kind == 9) (span_lent p) None) (buffer_part p)
    (either (kind == 9) (span_lent p) None (span_part p) tt))

lent_part : (p : List ℕ) → IsPart (lent_of p)
lent_part p = either (nat_le (ranges_end (kind_of p) p) (offset8_of (slice_index p 0))) (lent_by (kind_of p) p) None (by_kind (kind_of p) p) tt

-- so many bytes fill 1 to 512 words
words_fit : (n : ℕ) → is_part n ≡ true → (0 < words_for n) × (words_for n ≤ 512)
words_fit n e =
    let low : 1 ≤ n = (let h : nat_le 1 n ≡ true = left (nat_le 1 n) (nat_le n 4096) e in grind (arith, nat_tests, h)) in
    let high : n ≤ 4096 = (let h : nat_le n 4096 ≡ true = right (nat_le 1 n) (nat_le n 4096) e in grind (arith, nat_tests, h)) in
    ((let z : 0 < (n + 7) / 8 = grind (arith, low) in z), (let z : (n + 7) / 8 ≤ 512 = grind (arith, high) in z))

loan_fits : (c : ℕ) (o : Option LentBytes) (a : Loan) → IsPart o → loan_in c o ≡ Some a → (a.page < c) × (0 < a.words) × (a.words ≤ 512)
loan_fits c None a f e = absurd (cc)
loan_fits c (Some b) a f e = by_test (ltb b.page c) refl
  where
    same : (x y : Loan) → Some x ≡ Some y → x ≡ y
    same x y h = cc

    by_test : (t : Bool) → ltb b.page c ≡ t → (a.page < c) × (0 < a.words) × (a.words ≤ 512)
    by_test true h =
        let is : record { page = b.page; words = words_for b.bytes } ≡ a = same _ a (sym (ap (λ (t : Bool). cond t (Some record { page = b.page; words = words_for b.bytes }) None) h) ∙ e) in
        let w = words_fit b.bytes f in
        subst (λ (x : Loan). (x.page < c) × (0 < x.words) × (x.words ≤ 512)) is ((let z : b.page < c = grind (arith, nat_tests, h) in z), w.0, w.1)
    by_test false h = absurd (let n : None ≡ Some a = sym (ap (λ (t : Bool). cond t (Some record { page = b.page; words = words_for b.bytes }) None) h) ∙ e in (cc))

pub fits : (c : ℕ) (p : List ℕ) (a : Loan) → (layout c).lends p ≡ Some a → (a.page < c) × (0 < a.words) × (a.words ≤ 512)
fits c p a e = loan_fits c (lent_of p) a (lent_part p) e
