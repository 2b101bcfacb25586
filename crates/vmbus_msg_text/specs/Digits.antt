-- Bytes and numbers as they are printed, one by one.
use Rattle.std.specs.Prelude.{ℕ, List, [], ◌∷◌, ◌++◌, codes}
use Rattle.std.specs.List.{flat_map}
use Rattle.std.specs.Fmt.{decimal}
use Rattle.script_text.specs.Hex.{hex_2}

-- the text of bytes as digits, byte by byte
unfoldable pub digits_text : List ℕ → List ℕ
digits_text bytes = flat_map hex_2 bytes

-- the text of numbers: the first as it is, and each other one behind a comma
unfoldable pub numbers_text : List ℕ → List ℕ
numbers_text [] = []
numbers_text (n ∷ ns) = decimal n ++ flat_map (λ m. codes "," ++ decimal m) ns
