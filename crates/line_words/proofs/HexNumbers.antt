-- The numbers that at most 16 hexadecimal digits write.
use Rattle.std.proofs.Common.{◌≡◌, ℕ, zero, suc, ◌+◌, ◌*◌, ◌<◌, ◌≤◌, ◌^◌, ◌&&◌, Bool, true, false, List, [], ◌∷◌, length, get_or, refl, arith}
use Rattle.std.specs.List.{list_all}
use Rattle.std.proofs.lemmas.Bool.Decides.{nat_tests}
use Rattle.script_text.specs.Forms.{is_hex, hex_value, hex_after}

both : (a b : Bool) → (a && b) ≡ true → (a ≡ true) × (b ≡ true)
both true true h = (refl, refl)
both true false h = cc
both false b h = cc

-- more digits make no number smaller
pub hex_grows : (ds : List ℕ) (n : ℕ) → n ≤ hex_after n ds
hex_grows [] n = omega arith
hex_grows (d ∷ ds) n = omega (arith, hex_grows ds (16 * n + hex_value d))

digit_small : (d : ℕ) → is_hex d ≡ true → hex_value d < 16
digit_small d is = grind (arith, nat_tests, is)

-- so many digits more make a number so many times greater
abbrev scaled : ℕ → ℕ → ℕ
scaled m zero = m
scaled m (suc k) = scaled (16 * m) k

hex_below : (ds : List ℕ) (n m : ℕ) → list_all is_hex ds ≡ true → n < m → hex_after n ds < scaled m (length ds)
hex_below [] n m all less = less
hex_below (d ∷ ds) n m all less =
    let two = both (is_hex d) (list_all is_hex ds) all in
    hex_below ds (16 * n + hex_value d) (16 * m) two.1 (omega (arith, less, digit_small d two.0))

scaled_grows : (k m : ℕ) → m ≤ scaled m k
scaled_grows zero m = omega arith
scaled_grows (suc k) m = omega (arith, scaled_grows k (16 * m))

most_scaled : (j l m : ℕ) → j ≤ l → scaled m j ≤ scaled m l
most_scaled zero l m most = scaled_grows l m
most_scaled (suc j) zero m most = absurd (omega (arith, most))
most_scaled (suc j) (suc l) m most = most_scaled j l (16 * m) (omega (arith, most))

-- 16 digits write a number of 64 bits, and fewer do
pub hex_fits : (ds : List ℕ) → length ds ≤ 16 → list_all is_hex ds ≡ true → hex_after 0 ds < 2 ^ 64
hex_fits ds few all = omega (arith, hex_below ds 0 1 all (omega arith), most_scaled (length ds) 16 1 few)

-- the number that goes on stays in 64 bits where the whole one does
pub hex_step : (ds : List ℕ) (n whole : ℕ) → 1 ≤ length ds → hex_after n ds ≡ whole → whole < 2 ^ 64 → 16 * n + hex_value (get_or ds 0 0) < 2 ^ 64
hex_step [] n whole some is small = absurd (omega (arith, some))
hex_step (d ∷ ds) n whole some is small = omega (arith, is, small, hex_grows ds (16 * n + hex_value d))
