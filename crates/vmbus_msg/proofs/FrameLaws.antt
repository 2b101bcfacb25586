-- Frames of 64 bits.
use Rattle.std.proofs.Common.{ℕ, suc, ◌^◌, ◌<◌, List, [], ◌∷◌, get_or, arith}
use Rattle.std.specs.List.{AllByRecursion}

-- each number fits where the one at each place does
pub all_fit : (fs : List ℕ) → ((i : ℕ) → get_or fs i 0 < 2 ^ 64) → AllByRecursion (λ f. f < 256 ^ 8) fs
all_fit [] h = tt
all_fit (f ∷ fs) h = let one : f < 2 ^ 64 = h 0 in (omega (arith, one), all_fit fs (λ i. h (suc i)))
