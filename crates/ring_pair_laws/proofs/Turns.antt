-- Positions in a stream, and the cells of a ring of n cells where they stand.
use Rattle.std.proofs.Common.{◌≡◌, ◌≢◌, ℕ, ◌+◌, ◌-◌, ◌*◌, ◌/◌, ◌%◌, ◌<◌, ◌≤◌, Bool, true, false, ◌&&◌, cond, ltb, eqb, refl, sym, ap, ◌∙◌, arith}
use Rattle.std.proofs.Math.Nat.{mod-add-mod, mod-eq_of_lt, mod-eq-sub-mod}
use Rattle.std.proofs.lemmas.Bool.Decides.{nat_tests}
use Rattle.ring_machine.specs.Places.{ahead, used, free, low, is_index, cell_of}

pub below : (n x : ℕ) → 0 < n → x % n < n
below n x h = omega (arith, h)

pub small_mod : (n x : ℕ) → x < n → x % n ≡ x
small_mod n x h = mod-eq_of_lt h

late_mod : (n x : ℕ) → n ≤ x → x < n + n → x % n ≡ x - n
late_mod n x l h = mod-eq-sub-mod l ∙ mod-eq_of_lt (omega arith)

pub ahead_mod : (n x k : ℕ) → k < n → ahead n (x % n) k ≡ (x + k) % n
ahead_mod n x k h =
    let r = below n x (omega arith) in
    by_test (ltb (x % n + k) n) refl
  where
    by_test : (b : Bool) → ltb (x % n + k) n ≡ b → cond b (x % n + k) (x % n + k - n) ≡ (x + k) % n
    by_test true e = let lt : x % n + k < n = grind (arith, nat_tests) in sym (small_mod n (x % n + k) lt) ∙ mod-add-mod x n k
    by_test false e =
        let ge : n ≤ x % n + k = grind (arith, nat_tests) in
        let r = below n x (omega arith) in
        sym (late_mod n (x % n + k) ge (omega arith)) ∙ mod-add-mod x n k

pub ahead_below : (n i k : ℕ) → i < n → k < n → ahead n i k < n
ahead_below n i k a b = grind (arith, nat_tests)

used_ahead : (n r j : ℕ) → r < n → j < n → used n r (ahead n r j) ≡ j
used_ahead n r j a b = grind (arith, nat_tests)

free_ahead : (n r j : ℕ) → r < n → j < n → free n r (ahead n r j) ≡ n - j
free_ahead n r j a b = grind (arith, nat_tests)

module _ (n r w : ℕ) (le : r ≤ w) (lt : w < r + n) where
  short : w - r < n
  short = omega arith

  end_is : w % n ≡ ahead n (r % n) (w - r)
  end_is = let is : w ≡ r + (w - r) = omega arith in ap (λ (k : ℕ). k % n) is ∙ sym (ahead_mod n r (w - r) short)

  pub used_mod : used n (r % n) (w % n) ≡ w - r
  used_mod = ap (used n (r % n)) end_is ∙ used_ahead n (r % n) (w - r) (below n r (omega arith)) short

  pub free_mod : free n (r % n) (w % n) ≡ n - (w - r)
  free_mod = ap (free n (r % n)) end_is ∙ free_ahead n (r % n) (w - r) (below n r (omega arith)) short

moved_on : (n i j : ℕ) → i < n → 0 < j → j < n → ahead n i j ≢ i
moved_on n i j a b c e = grind (arith, nat_tests)

-- two positions less than a turn apart stand in two cells
pub apart : (n a b : ℕ) → a < b → b < a + n → a % n ≢ b % n
apart n a b lt turn e = moved_on n (a % n) (b - a) (below n a (omega arith)) (omega arith) (omega arith) (sym (end_is n a b (omega arith) turn) ∙ sym e)

-- a header word that names a cell
module _ (n s : ℕ) (most : n ≤ 16777216) (h : s < n) where
  low_here : low (8 * s) ≡ 8 * s
  low_here = mod-eq_of_lt (omega arith)

  pub low_is : low (8 * s) ≡ 8 * s
  low_is = low_here

  pub cell_here : cell_of (8 * s) ≡ s
  cell_here = ap (λ (k : ℕ). k / 8) low_here ∙ omega arith

  pub index_here : is_index n (8 * s) ≡ true
  index_here =
      let a : low (8 * s) % 8 ≡ 0 = ap (λ (k : ℕ). k % 8) low_here ∙ omega arith in
      let c : low (8 * s) / 8 ≡ s = cell_here in
      let b : low (8 * s) / 8 < n = omega (arith, c) in
      both (eqb (low (8 * s) % 8) 0) (ltb (low (8 * s) / 8) n) (grind (arith, nat_tests)) (grind (arith, nat_tests))
    where
      both : (a b : Bool) → a ≡ true → b ≡ true → (a && b) ≡ true
      both a b e f = cc
