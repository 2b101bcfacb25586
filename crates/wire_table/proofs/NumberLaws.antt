-- Laws of numbers of one width in a row.
use Rattle.std.proofs.Common.{◌≡◌, ℕ, zero, suc, ◌+◌, ◌-◌, ◌*◌, ◌^◌, ◌<◌, ◌≤◌, List, [], ◌∷◌, ◌++◌, length, take, drop, refl, sym, ap, ◌∙◌, arith, append_assoc, length-append, length-drop}
use Rattle.std.specs.List.{flat_map, AllByRecursion}
use Rattle.std.proofs.lemmas.List.{drop-drop, append-nil, take_at, drop_at, length-take-le, take-append-drop}
use Rattle.wire_table.proofs.RowLaws.{IsBytes, take_bytes, drop_bytes}
use Rattle.wire_table.proofs.LittleLemmas.{length-bytes_of, number_of-bytes_of, bytes_of-number_of, number_of_below}
use Rattle.wire_table.specs.Little.{number_of, bytes_of}
use Rattle.wire_table.specs.Rows.{numbers_in}

-- one more number is read, and the rest is still to come
pub numbers_more : (w n i : ℕ) (bs vs all : List ℕ) → i < n → vs ++ numbers_in w (n - i) (drop (w * i) bs) ≡ all
    → (vs ++ number_of (take w (drop (w * i) bs)) ∷ []) ++ numbers_in w (n - (i + 1)) (drop (w * (i + 1)) bs) ≡ all
unfolding numbers_in
numbers_more w n i bs vs all lt h =
    let one : n - i ≡ suc (n - (i + 1)) = omega arith in
    let step : w * (i + 1) ≡ w * i + w = omega arith in
    let next : drop (w * (i + 1)) bs ≡ drop w (drop (w * i) bs) = ap (λ k. drop k bs) step ∙ sym (drop-drop w (w * i) bs) in
    rw (next, append_assoc vs (number_of (take w (drop (w * i) bs)) ∷ []) (numbers_in w (n - (i + 1)) (drop w (drop (w * i) bs)))) (rw one at h)

-- all are read
pub numbers_all : (w n i : ℕ) (bs vs all : List ℕ) → n ≤ i → vs ++ numbers_in w (n - i) (drop (w * i) bs) ≡ all → vs ≡ all
unfolding numbers_in
numbers_all w n i bs vs all le h = let none : n - i ≡ 0 = omega arith in sym (append-nil vs) ∙ rw none at h

pub length-numbers_in : (w n : ℕ) (bs : List ℕ) → length (numbers_in w n bs) ≡ n
unfolding numbers_in
length-numbers_in w zero bs = refl
length-numbers_in w (suc n) bs = ap suc (length-numbers_in w n (drop w bs))

-- bytes are those of the numbers that are read from them
pub numbers_found : (w n : ℕ) (bs : List ℕ) → IsBytes bs → length bs ≡ w * n
    → (flat_map (bytes_of w) (numbers_in w n bs) ≡ bs) × AllByRecursion (λ v. v < 256 ^ w) (numbers_in w n bs)
unfolding numbers_in
numbers_found w zero [] h len = (refl, tt)
numbers_found w zero (b ∷ bs) h len = absurd (omega arith)
numbers_found w (suc n) bs h len =
    let whole : length bs ≡ w + w * n = len ∙ omega arith in
    let one : length (take w bs) ≡ w = length-take-le w bs (omega (arith, whole)) in
    let first : bytes_of w (number_of (take w bs)) ≡ take w bs = ap (λ k. bytes_of k (number_of (take w bs))) (sym one) ∙ bytes_of-number_of (take w bs) (take_bytes w bs h) in
    let below : number_of (take w bs) < 256 ^ length (take w bs) = number_of_below (take w bs) (take_bytes w bs h) in
    let others = numbers_found w n (drop w bs) (drop_bytes w bs h) (omega (arith, length-drop w bs, whole)) in
    (rw (first, others.0) (take-append-drop w bs), (rw one at below, others.1))

-- numbers that fit are read again from their bytes
pub numbers_again : (w : ℕ) (vs : List ℕ) → AllByRecursion (λ v. v < 256 ^ w) vs
    → (numbers_in w (length vs) (flat_map (bytes_of w) vs) ≡ vs) × (length (flat_map (bytes_of w) vs) ≡ w * length vs)
unfolding numbers_in
numbers_again w [] h = (refl, omega arith)
numbers_again w (v ∷ vs) h =
    let all = flat_map (bytes_of w) vs in
    let others = numbers_again w vs h.1 in
    let front : take w (bytes_of w v ++ all) ≡ bytes_of w v = take_at (bytes_of w v) all w (length-bytes_of w v) in
    let back : drop w (bytes_of w v ++ all) ≡ all = drop_at (bytes_of w v) all w (length-bytes_of w v) in
    let value : number_of (bytes_of w v) ≡ v = number_of-bytes_of w v h.0 in
    (rw (front, back, value) (ap (λ (us : List ℕ). v ∷ us) others.0), omega (arith, length-append (bytes_of w v) all, length-bytes_of w v, others.1))
