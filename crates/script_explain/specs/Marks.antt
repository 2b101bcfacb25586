-- The word of a wrong line that is at fault.
use Rattle.std.specs.Prelude.{ℕ, ◌+◌, Bool, ◌||◌, List, [], ◌∷◌, length, codes, bytes_eq, Option, Some, None, if◌then◌else◌}
use Rattle.std.specs.Option.{option_map_or}
use Rattle.script_text.specs.Words.{is_word}
use Rattle.script_text.specs.declared.fault.Why6.{Why6}
use Rattle.script_text.specs.declared.fault.Why6.TheVariants.{Form as BadForm, UnknownName, Repeat, Range, Limit, Order}
use Rattle.script_explain.specs.declared.form.Form.{Form}
use Rattle.script_explain.specs.declared.row.Row.{Row}
use Rattle.script_explain.specs.declared.mark.Mark.{Mark}
use Rattle.script_explain.specs.Forms.{fits, is_far}
use Rattle.script_explain.specs.Rows.{forms, row_of}
use Rattle.script_explain.specs.Places.{text_at, word_at}

-- the row that a line nearly is: the one that begins with its first word
abbrev pub row_at : List ℕ → Option Row
row_at line = row_of (text_at line 0) (text_at line 1) (text_at line 2)

abbrev pub begins_with : List ℕ → List ℕ → Bool
begins_with line key = bytes_eq (text_at line 0) key

-- Form: the first word, from the n-th on, that hasn't its form, is missing or is too many
abbrev pub wrong_word : List ℕ → ℕ → List Form → Option ℕ
wrong_word line n [] = if is_word (text_at line n) then Some n else None
wrong_word line n (form ∷ forms) = if fits form (text_at line n) then wrong_word line (n + 1) forms else Some n

-- Range: the first word, from the n-th on, that is out of its range, or else this one
abbrev pub far_word : List ℕ → ℕ → ℕ → List Form → ℕ
far_word line last n [] = last
far_word line last n (form ∷ forms) = if is_far form (text_at line n) then n else far_word line last (n + 1) forms

-- the number that only the lines before tell out of range: of a rescind it stands behind after, and else behind the name
abbrev pub last_number : List ℕ → ℕ
last_number line = if begins_with line (codes "rescind") then 3 else 2

-- Repeat: the name, which of an offer stands behind the kind; and of a bad block its place
abbrev pub repeated_word : List ℕ → ℕ
repeated_word line = if begins_with line (codes "offer") || begins_with line (codes "bad") then 2 else 1

-- the number of the word at fault, from 0 on; none where the whole line is
abbrev pub fault_word : List ℕ → Why6 → Option ℕ
fault_word line Limit = None
fault_word line Order = Some 0
fault_word line UnknownName = Some 1
fault_word line Repeat = Some (repeated_word line)
fault_word line BadForm = option_map_or (λ row. wrong_word line 1 (forms row)) (row_at line) (Some 0)
fault_word line Range = option_map_or (λ row. Some (far_word line (last_number line) 1 (forms row))) (row_at line) None

-- where the n-th word stands; the end of the line where it is missing
abbrev pub mark_of : List ℕ → ℕ → Mark
mark_of line n = option_map_or (λ w. record { at = w.0; len = length w.1 }) (word_at line n) (record { at = length line; len = 0 })

-- where the word at fault stands
abbrev pub mark_at : List ℕ → Why6 → Mark
mark_at line why = option_map_or (mark_of line) (fault_word line why) (record { at = 0; len = length line })
