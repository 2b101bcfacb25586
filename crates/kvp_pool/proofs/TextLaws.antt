-- Texts have no unit of 0.
use Rattle.std.proofs.Common.{◌≡◌, ◌<◌, ◌==◌, ℕ, zero, suc, Bool, true, false, List, [], ◌∷◌, not, sym, subst, refl, arith}
use Rattle.std.proofs.lemmas.Bool.Decides.{nat_tests}
use Rattle.std.specs.Bool.{MatchBool}
use Rattle.std.specs.List.{AllByRecursion, list_any}

abbrev Whole : List ℕ → Type 0
Whole us = AllByRecursion (λ u. 0 < u) us

not_zero : (n : ℕ) → (suc n == 0) ≡ false
not_zero n = grind (arith, nat_tests)

one_more : (n : ℕ) (us : List ℕ) (b : Bool) → MatchBool b (¬ Whole us) (Whole us) → MatchBool b (¬ Whole (suc n ∷ us)) (Whole (suc n ∷ us))
one_more n us true f = λ h. f h.1
one_more n us false h = (omega arith, h)

pub whole_or_not : (us : List ℕ) → MatchBool (list_any (λ u. u == 0) us) (¬ Whole us) (Whole us)
whole_or_not [] = tt
whole_or_not (zero ∷ us) = λ h. absurd (omega (arith, h.0))
whole_or_not (suc n ∷ us) = rw (not_zero n) (one_more n us (list_any (λ u. u == 0) us) (whole_or_not us))

turned : (P Q : Type 0) (b : Bool) → MatchBool b Q P → MatchBool (not b) P Q
turned P Q true h = h
turned P Q false h = h

pub whole_unless : (us : List ℕ) (b : Bool) → b ≡ list_any (λ u. u == 0) us → MatchBool (not b) (Whole us) (¬ Whole us)
whole_unless us b e = turned (Whole us) (¬ Whole us) b (subst (λ c. MatchBool c (¬ Whole us) (Whole us)) (sym e) (whole_or_not us))
