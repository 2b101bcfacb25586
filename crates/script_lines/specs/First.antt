-- The first wrong line of a script.
use Rattle.std.specs.Prelude.{ℕ, ◌≡◌, ◌+◌, List, [], ◌∷◌, ◌++◌, length, Some, None, Ok, Err}
use Rattle.std.specs.Str.Lines.{lines}
use Rattle.script_text.specs.declared.fault.ScriptFault.{ScriptFault}
use Rattle.script_lines.specs.declared.line.Line.{Line}
use Rattle.script_lines.specs.Faults.{fault_at}
use Rattle.script_lines.specs.Grammar.{lines_at, script_of}

-- none of these lines is refused, numbered from n on and behind the lines before; in the end they say this
abbrev pub Reads : ℕ → List Line → List (List ℕ) → List Line → Type 0
Reads n before [] said = before ≡ said
Reads n before (line ∷ rest) said = (fault_at n before line ≡ None) × Reads (n + 1) (before ++ lines_at n before line) rest said

-- the lines before it are right, and it is refused for this reason
pub record IsFirstWrong (bytes : List ℕ) (fault : ScriptFault) : Type 0 where
  pub good : List (List ℕ)
  pub bad : List ℕ
  pub rest : List (List ℕ)
  pub said : List Line
  pub split : lines bytes ≡ good ++ bad ∷ rest
  pub line : fault.line ≡ length good + 1
  pub right : Reads 1 [] good said
  pub why : fault_at fault.line said bad ≡ Some fault.why

-- the fault of a script is its first wrong line
abbrev pub FindsFirstWrong : Type 0
FindsFirstWrong = (bytes : List ℕ) (fault : ScriptFault) → script_of bytes ≡ Err fault → IsFirstWrong bytes fault

-- a script has no wrong line
abbrev pub RefusesNothing : Type 0
RefusesNothing = (bytes : List ℕ) (said : List Line) → script_of bytes ≡ Ok said → Reads 1 [] (lines bytes) said

-- bytes with no wrong line are a script
abbrev pub AcceptsRight : Type 0
AcceptsRight = (bytes : List ℕ) (said : List Line) → Reads 1 [] (lines bytes) said → script_of bytes ≡ Ok said
