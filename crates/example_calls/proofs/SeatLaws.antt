-- The words of a new channel are as many as its steps need.
use Rattle.std.proofs.Common.{◌≡◌, ℕ, ◌+◌, length, List, ap, ◌∙◌, length-set}
use Rattle.std.proofs.lemmas.List.{append-nil, length-replicate}
use Rattle.ring_machine.specs.Places.{words_of}
use Rattle.ring_core.specs.Told.{opening, opening_with}

pub opening_length : (n : ℕ) → length (opening_with n 0) ≡ words_of n
opening_length n = ap (λ (ws : List ℕ). length ws) (append-nil (opening n)) ∙ bare n
  where
    bare : (m : ℕ) → length (opening m) ≡ words_of m
    bare m = length-set _ 4 1 ∙ (length-set _ 2 1 ∙ (length-set _ (m + 5 + 4) 1 ∙ (length-set _ (m + 5 + 2) 1 ∙ length-replicate (words_of m) 0)))
