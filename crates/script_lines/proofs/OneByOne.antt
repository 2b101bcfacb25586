-- A script is read line by line.
use Rattle.std.proofs.Common.{◌≡◌, ℕ, ◌+◌, ◌≤◌, List, ◌∷◌, ◌++◌, length, Option, Some, None, Err, sym, ap, ◌∙◌, arith, length-append}
use Rattle.script_text.specs.declared.fault.ScriptFault.{ScriptFault}
use Rattle.script_lines.specs.declared.line.Line.{Line}
use Rattle.script_lines.specs.declared.line.What.{What}
use Rattle.script_lines.specs.declared.said.Said.{Said}
use Rattle.script_lines.specs.Faults.{device_said, fault_at}
use Rattle.script_lines.specs.Rows.{said_in}
use Rattle.script_lines.specs.Grammar.{what_of, numbered, said_lines, lines_at, or_fault, read_from}

-- what the line gives, and then the rest
pub reads_on : (number : ℕ) (before after : List Line) (line : List ℕ) (rest : List (List ℕ)) → fault_at number before line ≡ None → after ≡ before ++ lines_at number before line
    → read_from (number + 1) after rest ≡ read_from number before (line ∷ rest)
reads_on number before after line rest right is =
    ap (λ l. read_from (number + 1) l rest) is ∙ sym (ap (λ f. or_fault f number (read_from (number + 1) (before ++ lines_at number before line) rest)) right)

-- the line's fault
pub stops_at : (number : ℕ) (before : List Line) (line : List ℕ) (rest : List (List ℕ)) (fault : ScriptFault) → fault.line ≡ number → fault_at number before line ≡ Some fault.why → read_from number before (line ∷ rest) ≡ Err fault
stops_at number before line rest fault same wrong =
    ap (λ f. or_fault f number (read_from (number + 1) (before ++ lines_at number before line) rest)) wrong
    ∙ ap (λ n. or_fault (Some fault.why) n (read_from (number + 1) (before ++ lines_at number before line) rest)) (sym same)

-- a line is one line or none
one_numbered : (number : ℕ) (what : Option What) → length (numbered number what) ≤ 1
one_numbered number None = omega arith
one_numbered number (Some what) = omega arith

one_said : (number : ℕ) (before : List Line) (said : Option Said) → length (said_lines number before said) ≤ 1
one_said number before None = omega arith
one_said number before (Some said) = one_numbered number (what_of (device_said before said) said)

pub one_more : (number : ℕ) (before : List Line) (line : List ℕ) → length (before ++ lines_at number before line) ≤ length before + 1
one_more number before line = omega (arith, length-append before (lines_at number before line), one_said number before (said_in line))
