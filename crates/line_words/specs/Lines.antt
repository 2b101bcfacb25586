-- The words of a line.
use Rattle.std.specs.Prelude.{ℕ, ◌==◌, Bool, false, ◌&&◌, nat_le, List, [], ◌∷◌, Option, Some, None, if◌then◌else◌}
use Rattle.std.specs.List.{list_all}
use Rattle.script_text.specs.Words.{words}

-- 0x20 to 0x7E
abbrev pub is_printable : ℕ → Bool
is_printable c = nat_le 0x20 c && nat_le c 0x7E

-- a word that makes its line a comment, where it is the first
abbrev pub begins_comment : List ℕ → Bool
begins_comment [] = false
begins_comment (c ∷ cs) = c == 35

-- the words of a line that is no comment, and none of a comment
abbrev pub said_words : List (List ℕ) → List (List ℕ)
said_words [] = []
said_words (key ∷ others) = if begins_comment key then [] else key ∷ others

-- The words of a line, where it has printable bytes alone. There are none where it is passed over
abbrev pub words_in : List ℕ → Option (List (List ℕ))
words_in line = if list_all is_printable line then Some (said_words (words line)) else None
