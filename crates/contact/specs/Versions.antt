-- The protocol's versions.
use Rattle.std.specs.Prelude.{ℕ, ◌+◌, ◌*◌, ◌==◌, ◌&&◌, Bool, IsTrue, List, [], ◌∷◌, filter, min}
use Rattle.std.specs.List.{list_any}
use Rattle.std.specs.Bool.{nat_le}

-- a version's number
abbrev pub version : ℕ → ℕ → ℕ
version major minor = major * 65536 + minor

-- all versions, greatest first
abbrev pub versions : List ℕ
versions = version 5 3 ∷ version 5 2 ∷ version 5 1 ∷ version 5 0 ∷ version 4 1 ∷ version 4 0 ∷ version 3 0 ∷ version 2 4 ∷ []

-- the last one that a guest tries
abbrev pub oldest : ℕ
oldest = version 2 4

-- a version's number, and no other
abbrev pub IsVersion : ℕ → Type 0
IsVersion v = IsTrue (list_any (λ u. u == v) versions)

-- a guest tries a version with a host, where these are the highest ones of both: one from its own highest down to the agreed one
abbrev pub is_tried : ℕ → ℕ → ℕ → Bool
is_tried guest host v = nat_le v guest && nat_le (min guest host) v

-- the versions that it tries, in order
abbrev pub versions_tried : ℕ → ℕ → List ℕ
versions_tried guest host = filter (is_tried guest host) versions

-- a version has MODIFYCHANNEL: 4.1 and the later ones do
abbrev pub has_modify : ℕ → Bool
has_modify v = nat_le (version 4 1) v

-- a host answers it: from 5.3 on it does
abbrev pub answers_modify : ℕ → Bool
answers_modify v = nat_le (version 5 3) v
