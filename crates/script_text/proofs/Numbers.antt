-- The numbers that digits write.
use Rattle.std.proofs.Common.{◌≡◌, ℕ, ◌+◌, ◌*◌, ◌-◌, ◌≤◌, List, [], ◌∷◌, ◌<◌, ◌^◌, ◌/◌, Some, None, length, get_or, arith}
use Rattle.std.proofs.lemmas.Bool.Decides.{nat_tests}
use Rattle.script_text.specs.Forms.{number_after, in_u64}

-- more digits make no number smaller
pub number_grows : (ds : List ℕ) (n : ℕ) → n ≤ number_after n ds
number_grows [] n = omega arith
number_grows (d ∷ ds) n = omega (arith, number_grows ds (10 * n + (d - 48)))

pub below_fits : (n : ℕ) → n < 2 ^ 64 → in_u64 n ≡ Some n
below_fits n less = grind (arith, nat_tests)

pub above_fits_not : (n : ℕ) → 2 ^ 64 ≤ n → in_u64 n ≡ None
above_fits_not n more = grind (arith, nat_tests)

-- a digit more would leave 64 bits
pub too_large : (ds : List ℕ) (n : ℕ) → 1 ≤ length ds → (2 ^ 64 - 1 - (get_or ds 0 0 - 48)) / 10 < n → in_u64 (number_after n ds) ≡ None
too_large [] n some more = absurd (omega arith)
too_large (d ∷ ds) n some more =
    let large : 2 ^ 64 ≤ 10 * n + (d - 48) = omega arith in
    above_fits_not (number_after n (d ∷ ds)) (omega (arith, number_grows ds (10 * n + (d - 48)), large))
