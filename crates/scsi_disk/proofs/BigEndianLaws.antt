-- Reading and spelling big-endian numbers.
use Rattle.std.proofs.Common.{◌≡◌, ℕ, ◌<◌, ◌+◌, ◌*◌, ◌^◌, List, [], ◌∷◌, length, ap, refl, arith}
use Rattle.std.specs.Prelude.{fold}
use Rattle.std.specs.Int.{to_be_bytes, w16, w32, w64}
use Rattle.std.proofs.Math.Nat.{add-mul, mul_assoc, mul_comm, pow-suc}
use Rattle.byteorder.specs.Endian.{big_from, big_number}
use Rattle.byteorder.specs.Numbers.{big_from-cons}
use Rattle.scsi_disk.specs.BigEndian.{be_number}

folded : (xs : List ℕ) (a : ℕ) → fold (λ n b. n * 256 + b) a xs ≡ a * 256 ^ length xs + big_from 0 (length xs) xs
folded [] a = omega arith
folded (x ∷ xs) a =
    let p = 256 ^ length xs in
    rw (pow-suc 256 (length xs), big_from-cons 0 (length xs) x xs)
    (omega (arith, folded xs (a * 256 + x), add-mul (a * 256) x p, mul_assoc a 256 p, ap (λ k. a * k) (mul_comm 256 p)))

pub as_big : (xs : List ℕ) → be_number xs ≡ big_number (length xs) xs
unfolding be_number
as_big xs = omega (arith, folded xs 0)

pub none : (xs : List ℕ) → length xs ≡ 0 → 0 ≡ be_number xs
unfolding be_number
none [] e = refl
none (x ∷ xs) e = absurd (omega arith)

-- reading undoes spelling
pub be_number-to_be_bytes_8 : (v : ℕ) → v < 2 ^ 64 → be_number (to_be_bytes w64 v) ≡ v
unfolding be_number
be_number-to_be_bytes_8 v small = omega arith

pub be_number-to_be_bytes_4 : (v : ℕ) → v < 2 ^ 32 → be_number (to_be_bytes w32 v) ≡ v
unfolding be_number
be_number-to_be_bytes_4 v small = omega arith

pub be_number-to_be_bytes_2 : (v : ℕ) → v < 2 ^ 16 → be_number (to_be_bytes w16 v) ≡ v
unfolding be_number
be_number-to_be_bytes_2 v small = omega arith
