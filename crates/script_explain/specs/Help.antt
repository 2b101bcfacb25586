-- What helps the author of a wrong line.
use Rattle.std.specs.Prelude.{ℕ, ◌+◌, ◌-◌, Bool, ◌&&◌, List, [], ◌∷◌, ◌++◌, take, codes, Option, Some, None, if◌then◌else◌}
use Rattle.std.specs.Option.{option_map_or, option_or}
use Rattle.std.specs.Fmt.{decimal}
use Rattle.std.specs.Str.Lines.{lines}
use Rattle.script_text.specs.declared.fault.Why6.{Why6}
use Rattle.script_text.specs.declared.fault.Why6.TheVariants.{Form, UnknownName, Repeat, Range, Limit, Order}
use Rattle.script_explain.specs.declared.row.Row.{Row}
use Rattle.script_explain.specs.Places.{same_word}
use Rattle.script_explain.specs.Rows.{told}
use Rattle.script_explain.specs.Marks.{begins_with, row_at}

-- a line says the same as an earlier text: an offer of the same name, the same bad block, or a line that begins with the same two words
abbrev pub says_again : List ℕ → List ℕ → Bool
says_again line text =
    same_word text line 0 &&
    (if begins_with line (codes "offer") then same_word text line 2 else
    if begins_with line (codes "bad") then same_word text line 1 && same_word text line 2 else same_word text line 1)

-- the number of the last of these texts that a line says again; the first one's is n
abbrev pub last_said : List ℕ → ℕ → List (List ℕ) → Option ℕ
last_said line n [] = None
last_said line n (text ∷ texts) = option_or (last_said line (n + 1) texts) (if says_again line text then Some n else None)

-- the last of the lines before the one with this number that it says again
abbrev pub earlier : List ℕ → ℕ → List ℕ → Option ℕ
earlier bytes number line = last_said line 1 (take (number - 1) (lines bytes))

-- which line that is, in a line
abbrev pub said_text : Option ℕ → List ℕ
said_text found = option_map_or (λ n. codes "    said in line " ++ (decimal n ++ codes " already\n")) found []

-- how a row is written, in a line
abbrev pub row_text : Option Row → List ℕ
row_text found = option_map_or (λ row. codes "    " ++ (told row ++ codes "\n")) found []

-- of what is said again the earlier line, and else the row that the line nearly is
abbrev pub help_text : List ℕ → ℕ → List ℕ → Why6 → List ℕ
help_text bytes number line Repeat = said_text (earlier bytes number line)
help_text bytes number line Form = row_text (row_at line)
help_text bytes number line UnknownName = row_text (row_at line)
help_text bytes number line Range = row_text (row_at line)
help_text bytes number line Limit = row_text (row_at line)
help_text bytes number line Order = row_text (row_at line)
