-- Ranges over pages, cut part by part.
use Rattle.std.proofs.Common.{◌≡◌, ℕ, ◌+◌, ◌-◌, ◌/◌, ◌<◌, ◌≤◌, min, List, [], ◌∷◌, ◌++◌, length, get_or, take, drop, set, append_assoc, refl, ap, ◌∙◌, arith}
use Rattle.std.proofs.lemmas.List.{drop_more, take_more_set}
use Rattle.std.proofs.lemmas.List.Sums.{sum_by-cons}
use Rattle.vm_page.specs.declared.span.Span.{Span}
use Rattle.vm_page.specs.Cuts.{IsCutOf}

-- the part of a range in its first page
abbrev pub first_part : ℕ → ℕ → ℕ → Span
first_part offset len page = record { page = page; offset = offset; len = min len (4096 - offset) }

-- page by page, the part of what is left of a range
abbrev pub parts_of : ℕ → ℕ → List ℕ → List Span
parts_of offset len [] = []
parts_of offset len (p ∷ ps) = first_part offset len p ∷ parts_of 0 (len - min len (4096 - offset)) ps

pub cut_is : (offset len : ℕ) (pages : List ℕ) → offset < 4096 → 0 < len → (offset + len + 4095) / 4096 ≡ length pages → IsCutOf offset len pages (parts_of offset len pages)
cut_is offset len [] begins some is = absurd (omega arith)
cut_is offset len (p ∷ []) begins some is =
    let all : min len (4096 - offset) ≡ len = omega arith in
    rw all (record {
      pages_are = refl;
      within = ((some, omega arith), tt);
      in_order = refl;
      covers = rw (sum_by-cons (λ (s : Span). s.len) (record { page = p; offset = offset; len = len }) []) (omega arith);
    })
cut_is offset len (p ∷ q ∷ ps) begins some is =
    let part : min len (4096 - offset) ≡ 4096 - offset = omega arith in
    let later = cut_is 0 (len - (4096 - offset)) (q ∷ ps) (omega arith) (omega arith) (omega arith) in
    rw part (record {
      pages_are = ap (λ (l : List ℕ). p ∷ l) later.pages_are;
      within = ((omega arith, omega arith), later.within);
      in_order = (refl, omega arith, later.in_order);
      covers = rw (sum_by-cons (λ (s : Span). s.len) (record { page = p; offset = offset; len = 4096 - offset }) (parts_of 0 (len - (4096 - offset)) (q ∷ ps))) (omega (arith, later.covers));
    })

-- one part more is written
pub cut_more : (out all : List Span) (pages : List ℕ) (i offset len : ℕ) (s : Span) → i < length pages → length pages ≤ length out → s ≡ first_part offset len (get_or pages i 0) → take i out ++ parts_of offset len (drop i pages) ≡ all
    → take (i + 1) (set out i s) ++ parts_of 0 (len - min len (4096 - offset)) (drop (i + 1) pages) ≡ all
cut_more out all pages i offset len s lt room is so_far =
    let next = drop_more pages i 0 lt in
    let later = parts_of 0 (len - min len (4096 - offset)) (drop (i + 1) pages) in
    let more = take_more_set out i s (omega arith) in
    rw more (append_assoc (take i out) (s ∷ []) later ∙ (ap (λ t. take i out ++ t ∷ later) is ∙ rw next at so_far))
