-- Bytes: each element of a list is below 256.
use Rattle.std.proofs.Common.{◌≡◌, ℕ, zero, suc, ◌+◌, ◌/◌, ◌<◌, List, [], ◌∷◌, ◌++◌, length, get_or, take, drop, replicate, Bool, true, false, ◌&&◌, ◌%◌, refl, arith}
use Rattle.std.specs.Prelude.{nat_lt}
use Rattle.std.specs.List.{AllByRecursion, list_all}
use Rattle.std.proofs.lemmas.Bool.Decides.{nat_tests}
use Rattle.wire_table.specs.Little.{bytes_of}
use Rattle.wire_table.proofs.RowLaws.{IsBytes, take_bytes, drop_bytes}
use Rattle.vm_page.specs.Words.{low_bytes, bytes_in}
use Rattle.stor_proto.specs.Fields.{with_number, with_bytes}

pub from_all : (xs : List ℕ) → AllByRecursion (λ b. b < 256) xs → IsBytes xs
from_all [] h = λ i. omega arith
from_all (x ∷ xs) h = λ i. elim i as (λ j. get_or (x ∷ xs) j 0 < 256) [ zero ↦ h.0 | suc j ↦ from_all xs h.1 j ]

pub append_bytes : (xs ys : List ℕ) → IsBytes xs → IsBytes ys → IsBytes (xs ++ ys)
append_bytes [] ys h k = k
append_bytes (x ∷ xs) ys h k = λ i. elim i as (λ j. get_or (x ∷ (xs ++ ys)) j 0 < 256) [ zero ↦ h 0 | suc j ↦ append_bytes xs ys (λ m. h (suc m)) k j ]

pub number_bytes : (n v : ℕ) → IsBytes (bytes_of n v)
unfolding bytes_of
number_bytes zero v = λ i. omega arith
number_bytes (suc n) v = λ i. elim i as (λ j. get_or ((v % 256) ∷ bytes_of n (v / 256)) j 0 < 256) [ zero ↦ omega arith | suc j ↦ number_bytes n (v / 256) j ]

low_are_bytes : (n v : ℕ) → IsBytes (low_bytes n v)
unfolding low_bytes
low_are_bytes zero v = λ i. omega arith
low_are_bytes (suc n) v = λ i. elim i as (λ j. get_or ((v % 256) ∷ low_bytes n (v / 256)) j 0 < 256) [ zero ↦ omega arith | suc j ↦ low_are_bytes n (v / 256) j ]

pub words_bytes : (ws : List ℕ) → IsBytes (bytes_in ws)
words_bytes [] = λ i. omega arith
words_bytes (w ∷ ws) = append_bytes (low_bytes 8 w) (bytes_in ws) (low_are_bytes 8 w) (words_bytes ws)

pub zero_bytes : (n : ℕ) → IsBytes (replicate n 0)
zero_bytes zero = λ i. omega arith
zero_bytes (suc n) = λ i. elim i as (λ j. get_or (0 ∷ replicate n 0) j 0 < 256) [ zero ↦ omega arith | suc j ↦ zero_bytes n j ]

pub with_number_bytes : (at w v : ℕ) (b : List ℕ) → IsBytes b → IsBytes (with_number at w v b)
unfolding with_number
with_number_bytes at w v b h = append_bytes (take at b ++ bytes_of w v) (drop (at + w) b) (append_bytes (take at b) (bytes_of w v) (take_bytes at b h) (number_bytes w v)) (drop_bytes (at + w) b h)

pub with_bytes_bytes : (at : ℕ) (part b : List ℕ) → IsBytes part → IsBytes b → IsBytes (with_bytes at part b)
unfolding with_bytes
with_bytes_bytes at part b p h = append_bytes (take at b ++ part) (drop (at + length part) b) (append_bytes (take at b) part (take_bytes at b h) p) (drop_bytes (at + length part) b h)

-- the test of all bytes
both : (a b : Bool) → (a && b) ≡ true → (a ≡ true) × (b ≡ true)
both true true h = (refl, refl)
both true false h = cc
both false b h = cc

pub all_from_test : (xs : List ℕ) → list_all (λ b. nat_lt b 256) xs ≡ true → AllByRecursion (λ b. b < 256) xs
all_from_test [] h = tt
all_from_test (x ∷ xs) h = let two = both (nat_lt x 256) (list_all (λ b. nat_lt b 256) xs) h in (grind (arith, nat_tests, two.0), all_from_test xs two.1)

pub test_from_all : (xs : List ℕ) → AllByRecursion (λ b. b < 256) xs → list_all (λ b. nat_lt b 256) xs ≡ true
test_from_all [] h = refl
test_from_all (x ∷ xs) h =
    let one : nat_lt x 256 ≡ true = grind (arith, nat_tests, h.0) in
    rw (one, test_from_all xs h.1) refl
