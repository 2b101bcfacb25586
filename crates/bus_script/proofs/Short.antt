-- What is pushed onto a text, piece by piece.
use Rattle.std.proofs.Common.{◌≡◌, ℕ, List, ◌++◌, append_assoc}

-- seven pieces, pushed one by one
pub pushed_seven : (text a b c d e f g : List ℕ) → ((((((text ++ a) ++ b) ++ c) ++ d) ++ e) ++ f) ++ g ≡ text ++ (a ++ (b ++ (c ++ (d ++ (e ++ (f ++ g))))))
pushed_seven text a b c d e f g = simp append_assoc
