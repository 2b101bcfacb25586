-- What is said of a script that is refused.
use Rattle.std.specs.Prelude.{◌≡◌, ℕ, ◌-◌, Bool, true, false, List, ◌++◌, codes, replicate, max, slice_get, Result, Ok, Err, Some}
use Rattle.std.specs.Fmt.{decimal}
use Rattle.std.specs.Str.Lines.{lines}
use Rattle.script_text.specs.declared.fault.Why6.{Why6}
use Rattle.script_text.specs.declared.fault.Why6.TheVariants.{Form, UnknownName, Repeat, Range, Limit, Order}
use Rattle.script_text.specs.declared.fault.ScriptFault.{ScriptFault}
use Rattle.script_lines.specs.declared.line.Line.{Line}
use Rattle.script_explain.specs.declared.mark.Mark.{Mark}
use Rattle.script_explain.specs.Marks.{mark_at}
use Rattle.script_explain.specs.Help.{help_text}

-- a reason in a word
abbrev pub why_text : Why6 → List ℕ
why_text Form = codes "Form"
why_text UnknownName = codes "UnknownName"
why_text Repeat = codes "Repeat"
why_text Range = codes "Range"
why_text Limit = codes "Limit"
why_text Order = codes "Order"

-- the line's number and the reason, as the program says them
abbrev pub reason_text : ScriptFault → List ℕ
reason_text fault = codes "script line " ++ (decimal fault.line ++ (codes ": " ++ why_text fault.why))

-- a line's text, set in by four places
abbrev pub shown_text : List ℕ → List ℕ
shown_text line = codes "\n    " ++ (line ++ codes "\n")

-- both
abbrev pub head_text : ScriptFault → List ℕ → List ℕ
head_text fault line = reason_text fault ++ shown_text line

-- carets under a part of that text, at least one
abbrev pub mark_text : Mark → List ℕ
mark_text mark = codes "    " ++ (replicate mark.at 32 ++ (replicate (max mark.len 1) 94 ++ codes "\n"))

-- the first wrong line of these bytes with its reason and its text, a mark under the word at fault, and what helps
pub record Tells (fault : ScriptFault) (bytes text : List ℕ) : Type 0 where
  pub line : List ℕ
  pub line_is : slice_get (lines bytes) (fault.line - 1) ≡ Some line
  pub is : text ≡ head_text fault line ++ (mark_text (mark_at line fault.why) ++ help_text bytes fault.line line fault.why)

-- what is said of bytes that are this script, or have this fault, and whether they are refused
abbrev pub Explains : Result (List Line) ScriptFault → List ℕ → Bool → List ℕ → Type 0
Explains (Ok said) bytes refused text = (refused ≡ false) × (text ≡ codes "no line is wrong\n")
Explains (Err fault) bytes refused text = (refused ≡ true) × Tells fault bytes text
