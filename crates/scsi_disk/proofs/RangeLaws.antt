-- The places of a range, one after another.
use Rattle.std.proofs.Common.{◌≡◌, ℕ, suc, ◌+◌, ◌-◌, ◌<◌, Bool, false, ◌||◌, List, ◌∷◌, ◌++◌, sym, ap, ◌∙◌, append_assoc, arith}
use Rattle.std.specs.List.{flat_map, list_any, range_with_len}

-- the first place of the rest of a range
pub range_step : (lba i n : ℕ) → i < n → range_with_len (lba + i) (n - i) ≡ (lba + i) ∷ range_with_len (lba + (i + 1)) (n - (i + 1))
range_step lba i n lt =
    let e : n - i ≡ suc (n - (i + 1)) = omega arith in
    let f : lba + i + 1 ≡ lba + (i + 1) = omega arith in
    ap (range_with_len (lba + i)) e ∙ ap (λ k. (lba + i) ∷ range_with_len k (n - (i + 1))) f

-- a place that fails the test can be left out
pub any_step : (p : ℕ → Bool) (lba i n : ℕ) (r : Bool) → i < n → list_any p (range_with_len (lba + i) (n - i)) ≡ r → p (lba + i) ≡ false
    → list_any p (range_with_len (lba + (i + 1)) (n - (i + 1))) ≡ r
any_step p lba i n r lt all fails =
    sym (ap (list_any p) (range_step lba i n lt) ∙ ap (λ b. b || list_any p (range_with_len (lba + (i + 1)) (n - (i + 1)))) fails) ∙ all

-- the next part of a list that is put together part by part
pub gather_step : (f : ℕ → List ℕ) (lba i n : ℕ) (front all : List ℕ) → i < n → front ++ flat_map f (range_with_len (lba + i) (n - i)) ≡ all
    → (front ++ f (lba + i)) ++ flat_map f (range_with_len (lba + (i + 1)) (n - (i + 1))) ≡ all
gather_step f lba i n front all lt so =
    append_assoc front (f (lba + i)) (flat_map f (range_with_len (lba + (i + 1)) (n - (i + 1)))) ∙ sym (ap (λ ks. front ++ flat_map f ks) (range_step lba i n lt)) ∙ so
