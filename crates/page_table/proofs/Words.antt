-- The first words of a page, as a part of the copy.
use Rattle.std.proofs.Common.{◌≡◌, ℕ, zero, suc, ◌+◌, ◌*◌, ◌-◌, ◌<◌, ◌≤◌, Bool, true, cond, ltb, List, [], ◌∷◌, ◌++◌, length, get_or, take, drop, length-drop, slice_range, refl, sym, ap, ◌∙◌, arith}
use Rattle.std.proofs.lemmas.Bool.Decides.{nat_tests}
use Rattle.page_kept.specs.Items.{values}
use Rattle.page_table.specs.Table.{word_of}

-- one word more at the end
take_more : (n : ℕ) (xs : List ℕ) → n < length xs → take (suc n) xs ≡ take n xs ++ get_or xs n 0 ∷ []
take_more n [] h = absurd (omega arith)
take_more zero (x ∷ xs) h = refl
take_more (suc n) (x ∷ xs) h = ap (λ (ys : List ℕ). x ∷ ys) (take_more n xs (omega (arith, h)))

drop_get : (k n : ℕ) (xs : List ℕ) → get_or (drop k xs) n 0 ≡ get_or xs (k + n) 0
drop_get zero n xs = ap (λ (i : ℕ). get_or xs i 0) (let z : n ≡ 0 + n = omega arith in z)
drop_get (suc k) n [] = refl
drop_get (suc k) n (x ∷ xs) = drop_get k n xs ∙ ap (λ (i : ℕ). get_or (x ∷ xs) i 0) (let z : suc (k + n) ≡ suc k + n = omega arith in z)

below : (w : ℕ) (v : ℕ) → w < 512 → cond (ltb w 512) v 0 ≡ v
below w v h = ap (λ (b : Bool). cond b v 0) (let z : ltb w 512 ≡ true = grind (arith, nat_tests, h) in z)

front_is : (copy : List ℕ) (q n : ℕ) → n ≤ 512 → 512 * q + n ≤ length copy → take n (drop (512 * q) copy) ≡ values n (word_of copy q)
front_is copy q zero a b = refl
front_is copy q (suc n) a b =
    take_more n (drop (512 * q) copy) (omega (arith, b, length-drop (512 * q) copy))
    ∙ (λ i. front_is copy q n (omega (arith, a)) (omega (arith, b)) i ++ ((drop_get (512 * q) n copy ∙ sym (below n (get_or copy (512 * q + n) 0) (omega (arith, a)))) i) ∷ [])

pub part_is : (copy : List ℕ) (q n : ℕ) → n ≤ 512 → 512 * q + n ≤ length copy → slice_range copy (512 * q) (512 * q + n) ≡ values n (word_of copy q)
part_is copy q n a b = ap (λ (k : ℕ). take k (drop (512 * q) copy)) (let z : 512 * q + n - 512 * q ≡ n = omega arith in z) ∙ front_is copy q n a b
