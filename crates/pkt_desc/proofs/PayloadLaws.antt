-- The words of a payload, written one by one.
use Rattle.std.proofs.Common.{◌≡◌, ℕ, suc, ◌+◌, ◌-◌, ◌*◌, ◌<◌, ◌≤◌, List, [], ◌∷◌, ◌++◌, length, take, drop, set, append_assoc, sym, ap, ◌∙◌, arith}
use Rattle.std.proofs.lemmas.List.{drop-drop, take_more_set, append-nil}
use Rattle.vm_page.specs.Words.{word_at, words_from}

pub words_more : (n i : ℕ) (out all payload : List ℕ) (word : ℕ) → i < n → n ≤ length out → word ≡ word_at payload i → take i out ++ words_from (n - i) (drop (8 * i) payload) ≡ all
    → take (i + 1) (set out i word) ++ words_from (n - (i + 1)) (drop (8 * (i + 1)) payload) ≡ all
unfolding words_from
words_more n i out all payload word lt room is so_far =
    let k : n - i ≡ suc (n - (i + 1)) = omega arith in
    let at : 8 * i + 8 ≡ 8 * (i + 1) = omega arith in
    let later = words_from (n - (i + 1)) (drop (8 * (i + 1)) payload) in
    let more = take_more_set out i word (omega arith) in
    let before = rw (drop-drop 8 (8 * i) payload, at) at (rw k at so_far) in
    rw more (append_assoc (take i out) (word ∷ []) later ∙ (ap (λ w. take i out ++ w ∷ later) is ∙ before))

pub words_all : (n i : ℕ) (out all payload : List ℕ) → n ≡ i → take i out ++ words_from (n - i) (drop (8 * i) payload) ≡ all → take n out ≡ all
unfolding words_from
words_all n i out all payload is so_far =
    let k : n - i ≡ 0 = omega arith in
    ap (λ j. take j out) is ∙ (sym (append-nil (take i out)) ∙ rw k at so_far)
