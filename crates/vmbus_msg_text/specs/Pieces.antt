-- The pieces of a text.
use Rattle.std.specs.Prelude.{ℕ, List, [], ◌∷◌, ◌++◌, codes}

-- a space, a name, a space and a value
unfoldable pub named_text : List ℕ → List ℕ → List ℕ
named_text name value = codes " " ++ (name ++ (codes " " ++ value))

-- pieces in a row
abbrev pub joined : List (List ℕ) → List ℕ
joined [] = []
joined (p ∷ ps) = p ++ joined ps
