-- The first wrong line of an input.
use Rattle.std.specs.Prelude.{ℕ, ◌≡◌, ◌⊎◌, ◌+◌, true, false, List, [], ◌∷◌, ◌++◌, length, Some, None, Ok, Err}
use Rattle.std.specs.Str.Lines.{lines}
use Rattle.script_text.specs.declared.fault.Why6.TheVariants.{Limit}
use Rattle.script_text.specs.declared.fault.ScriptFault.{ScriptFault}
use Rattle.hostile_lines.specs.Inputs.{Input, fault_at, with_line, no_input, is_short, hostile_of}

-- none of these lines is refused, numbered from n on and behind the lines before; in the end they are this input
abbrev pub Reads : ℕ → Input → List (List ℕ) → Input → Type 0
Reads n before [] input = before ≡ input
Reads n before (line ∷ rest) input = (fault_at n before line ≡ None) × Reads (n + 1) (with_line n before line) rest input

-- the lines before it are right, and it is refused for this reason
pub record IsFirstWrong (bytes : List ℕ) (fault : ScriptFault) : Type 0 where
  pub good : List (List ℕ)
  pub bad : List ℕ
  pub rest : List (List ℕ)
  pub input : Input
  pub split : lines bytes ≡ good ++ bad ∷ rest
  pub line : fault.line ≡ length good + 1
  pub right : Reads 1 no_input good input
  pub why : fault_at fault.line input bad ≡ Some fault.why

-- the fault of an input is that it is too long, or else its first wrong line
abbrev pub FindsFirstWrong : Type 0
FindsFirstWrong = (bytes : List ℕ) (fault : ScriptFault) → hostile_of bytes ≡ Err fault
    → ((is_short bytes ≡ false) × (fault ≡ record { line = 0; why = Limit })) ⊎ ((is_short bytes ≡ true) × IsFirstWrong bytes fault)

-- an input has no wrong line
abbrev pub RefusesNothing : Type 0
RefusesNothing = (bytes : List ℕ) (input : Input) → hostile_of bytes ≡ Ok input → (is_short bytes ≡ true) × Reads 1 no_input (lines bytes) input

-- bytes with no wrong line are an input
abbrev pub AcceptsRight : Type 0
AcceptsRight = (bytes : List ℕ) (input : Input) → is_short bytes ≡ true → Reads 1 no_input (lines bytes) input → hostile_of bytes ≡ Ok input
