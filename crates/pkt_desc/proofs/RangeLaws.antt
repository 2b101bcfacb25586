-- Ranges of pages, one behind the other.
use Rattle.std.proofs.Common.{◌≡◌, ℕ, suc, ◌+◌, ◌*◌, ◌^◌, ◌<◌, ◌≤◌, false, nat_le, List, [], ◌∷◌, ◌++◌, length, get_or, drop, slice_index, refl, sym, ap, ◌∙◌, arith}
use Rattle.std.proofs.lemmas.Bool.Decides.{nat_tests}
use Rattle.std.specs.List.{AllByRecursion, flat_map}
use Rattle.std.proofs.lemmas.List.{drop-drop, get_or-drop}
use Rattle.vm_page.specs.declared.span.Span.{Span}
use Rattle.vm_page.specs.Cuts.{LiesInPage, pages_for}
use Rattle.pkt_desc.specs.Ranges.{low_32, high_32, span_words, spans_words, spans_in}
use Rattle.pkt_desc.specs.Built.{words_of_span}

-- the first range, and those behind it
pub spans_more : (ws : List ℕ) (k n at : ℕ) → k ≡ suc n → spans_words k (drop at ws) ≡ span_words (get_or ws at 0) + spans_words n (drop (at + span_words (get_or ws at 0)) ws)
unfolding spans_words
spans_more ws k n at is =
    let zero_more : at + 0 ≡ at = omega arith in
    let first : slice_index (drop at ws) 0 ≡ get_or ws at 0 = get_or-drop at ws 0 0 ∙ ap (λ j. get_or ws j 0) zero_more in
    ap (λ j. spans_words j (drop at ws)) is
    ∙ (ap (λ v. span_words v + spans_words n (drop (span_words v) (drop at ws))) first
    ∙ ap (λ l. span_words (get_or ws at 0) + spans_words n l) (drop-drop (span_words (get_or ws at 0)) at ws))

-- no ranges have no words
pub spans_none : (ws : List ℕ) (k : ℕ) → k ≡ 0 → spans_words k ws ≡ 0
unfolding spans_words
spans_none ws k is = ap (λ j. spans_words j ws) is

-- what ends past the payload doesn't fit
pub past : (a b : ℕ) → b < a → false ≡ nat_le a b
past a b lt = sym (grind (arith, nat_tests, lt))

-- the word of a part of a page is a range of one page
one_page : (s : Span) → LiesInPage s → (span_words (s.len + s.offset * 2 ^ 32) ≡ 2) × (low_32 (s.len + s.offset * 2 ^ 32) ≡ s.len) × (high_32 (s.len + s.offset * 2 ^ 32) ≡ s.offset)
one_page s lies =
    let low : low_32 (s.len + s.offset * 2 ^ 32) ≡ s.len = omega (arith, lies.0, lies.1) in
    let high : high_32 (s.len + s.offset * 2 ^ 32) ≡ s.offset = omega (arith, lies.0, lies.1) in
    let pages : pages_for s.offset s.len ≡ 1 = omega (arith, lies.0, lies.1) in
    (rw (low, high) (omega (arith, pages)), low, high)

-- parts of pages have two words each
pub spans_size : (spans : List Span) (rest : List ℕ) → AllByRecursion LiesInPage spans → spans_words (length spans) (flat_map words_of_span spans ++ rest) ≡ 2 * length spans
unfolding spans_words
spans_size [] rest all = refl
spans_size (s ∷ spans) rest all =
    let two = (one_page s all.0).0 in
    rw two (omega (arith, spans_size spans rest all.1))

pub spans_long : (spans : List Span) → length (flat_map words_of_span spans) ≡ 2 * length spans
spans_long [] = refl
spans_long (s ∷ spans) = omega (arith, spans_long spans)

-- and are read again from them
pub spans_read : (spans : List Span) (rest : List ℕ) → AllByRecursion LiesInPage spans → spans_in (length spans) (flat_map words_of_span spans ++ rest) ≡ spans
unfolding spans_in
spans_read [] rest all = refl
spans_read (s ∷ spans) rest all =
    let one = one_page s all.0 in
    rw (one.1, one.2) (ap (λ (l : List Span). s ∷ l) (spans_read spans rest all.1))

-- one range of pages has its word
pub one_word : (p : List ℕ) (count : ℕ) → count ≡ 1 → 3 + spans_words count (drop 3 p) ≤ length p → 4 ≤ length p
one_word p count one fit = omega (arith, spans_more p count 0 3 one, fit)

-- and a frame number, where it isn't empty
pub one_range : (p : List ℕ) (count : ℕ) → count ≡ 1 → 1 ≤ low_32 (get_or p 3 0) → 3 + spans_words count (drop 3 p) ≤ length p → 5 ≤ length p
one_range p count one some fit =
    let more = spans_more p count 0 3 one in
    let pages : 1 ≤ pages_for (high_32 (get_or p 3 0)) (low_32 (get_or p 3 0)) = omega (arith, some) in
    omega (arith, more, pages, fit)
