-- A text of parts, one by one.
use Rattle.std.proofs.Common.{◌≡◌, ℕ, zero, suc, ◌+◌, List, [], ◌∷◌, ◌++◌, drop, ap, sym, ◌∙◌, append_assoc, arith}
use Rattle.std.specs.Prelude.{Some, slice_get}
use Rattle.std.specs.List.{flat_map}

at_place : {X : Type 0} (xs : List X) (i : ℕ) (x : X) → slice_get xs i ≡ Some x → drop i xs ≡ x ∷ drop (suc i) xs
at_place [] i x is = absurd (cc (is))
at_place (y ∷ xs) zero x is = cc
at_place (y ∷ xs) (suc i) x is = at_place xs i x is

count : (i : ℕ) → suc i ≡ i + 1
count i = omega arith

-- the next part goes behind the text, and the rest are left
pub next_part : {X Y : Type 0} (f : X → List Y) (xs : List X) (i : ℕ) (x : X) (before now all : List Y) → slice_get xs i ≡ Some x → now ≡ before ++ f x
    → before ++ flat_map f (drop i xs) ≡ all → now ++ flat_map f (drop (i + 1) xs) ≡ all
next_part f xs i x before now all is more so_far =
    ap (λ t. t ++ flat_map f (drop (i + 1) xs)) more ∙ append_assoc before (f x) (flat_map f (drop (i + 1) xs)) ∙ ap (λ l. before ++ flat_map f l) (sym (at_place xs i x is ∙ ap (λ k. x ∷ drop k xs) (count i))) ∙ so_far
