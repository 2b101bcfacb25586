-- One version of a list more that may be tried.
use Rattle.std.proofs.Common.{◌≡◌, ℕ, ◌+◌, ◌<◌, ◌≤◌, Bool, true, false, cond, List, ◌∷◌, length, drop, get_or, ap, ◌∙◌, arith}
use Rattle.std.specs.Prelude.{filter}
use Rattle.std.proofs.lemmas.List.{drop_more}

one_more : (b : Bool) (v : ℕ) (vs : List ℕ) → length (cond b (v ∷ vs) vs) ≡ cond b 1 0 + length vs
one_more true v vs = omega arith
one_more false v vs = omega arith

pub left_more : (p : ℕ → Bool) (vs : List ℕ) (i d : ℕ) → i < length vs → length (filter p (drop i vs)) ≡ cond (p (get_or vs i d)) 1 0 + length (filter p (drop (i + 1) vs))
left_more p vs i d less = ap (λ l. length (filter p l)) (drop_more vs i d less) ∙ one_more (p (get_or vs i d)) (get_or vs i d) (filter p (drop (i + 1) vs))

pub few_more : (b : Bool) (count i n : ℕ) → n ≡ cond b 1 0 → count ≤ i → count + n ≤ i + 1
few_more true count i n is few = omega (arith, is, few)
few_more false count i n is few = omega (arith, is, few)
