-- What is printed of lines of hexadecimal digits.
use Rattle.std.specs.Prelude.{ℕ, ◌+◌, ◌==◌, ◌&&◌, nat_le, List, [], ◌∷◌, ◌++◌, codes, length, Option, Some, None, Result, Ok, Err, if◌then◌else◌}
use Rattle.std.specs.Str.Lines.{lines}
use Rattle.std.specs.Fmt.{decimal}
use Rattle.hex.specs.Hex.{decode_of}
use Rattle.script_text.specs.declared.fault.Why6.{Why6}
use Rattle.script_text.specs.declared.fault.Why6.TheVariants.{Form, Limit}
use Rattle.script_text.specs.declared.fault.ScriptFault.{ScriptFault}
use Rattle.hex.specs.declared.error.FromHexError.{FromHexError}
use Rattle.vmbus_msg_text.specs.Text.{bytes_text}

-- bytes, of which a line has at least one and at most 512; and there are 20,000 lines
abbrev pub bytes_fault : ℕ → List ℕ → Option Why6
bytes_fault number bytes =
    if length bytes == 0 then Some Form else
    if nat_le (length bytes) 512 && nat_le number 20000 then None else Some Limit

-- the reason against a line of which these bytes are read: digits in pairs alone are in form
abbrev pub fault_of_line : ℕ → Result (List ℕ) FromHexError → Option Why6
fault_of_line number (Err e) = Some Form
fault_of_line number (Ok bytes) = bytes_fault number bytes

-- a line's number and the text of its bytes
abbrev pub line_text : ℕ → List ℕ → List ℕ
line_text number bytes = decimal number ++ (codes " " ++ (bytes_text bytes ++ codes "\n"))

-- the text of a line of which these bytes are read
abbrev pub text_of_line : ℕ → Result (List ℕ) FromHexError → List ℕ
text_of_line number (Err e) = []
text_of_line number (Ok bytes) = line_text number bytes

-- the fault of this line, or what the rest gives
abbrev pub or_fault : Option Why6 → ℕ → Result (List ℕ) ScriptFault → Result (List ℕ) ScriptFault
or_fault (Some why) number rest = Err (record { line = number; why = why })
or_fault None number rest = rest

-- the text of each line in order behind what is printed already, or the first line that is refused
abbrev pub output_from : ℕ → List ℕ → List (List ℕ) → Result (List ℕ) ScriptFault
output_from number text [] = Ok text
output_from number text (line ∷ rest) = or_fault (fault_of_line number (decode_of line)) number (output_from (number + 1) (text ++ text_of_line number (decode_of line)) rest)

-- what is printed of an input, or its first wrong line
abbrev pub decode_output : List ℕ → Result (List ℕ) ScriptFault
decode_output bytes = output_from 1 [] (lines bytes)
