-- Which channel of a device has which of its requests.
use Rattle.std.specs.Prelude.{ℕ, ◌+◌, ◌%◌, ◌==◌, List, [], ◌∷◌, if◌then◌else◌}

-- of a device's requests, the first of which has this number, those of one of its channels: the numbers that leave the channel's when divided by how many there are
abbrev pub share : {X : Type 0} → ℕ → ℕ → ℕ → List X → List X
share many channel n [] = []
share many channel n (x ∷ xs) = if n % many == channel then x ∷ share many channel (n + 1) xs else share many channel (n + 1) xs
