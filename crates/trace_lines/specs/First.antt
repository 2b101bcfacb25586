-- The first wrong line of a trace.
use Rattle.std.specs.Prelude.{ℕ, ◌≡◌, ◌⊎◌, ◌+◌, true, false, List, [], ◌∷◌, ◌++◌, length, Some, None, Ok, Err}
use Rattle.std.specs.Str.Lines.{lines}
use Rattle.script_text.specs.declared.fault.Why6.TheVariants.{Limit}
use Rattle.script_text.specs.declared.fault.ScriptFault.{ScriptFault}
use Rattle.trace_lines.specs.Traces.{Trace, fault_at, with_line, no_trace, is_short, trace_of}

-- none of these lines is refused, numbered from n on and behind the lines before; in the end they are this trace
abbrev pub Reads : ℕ → Trace → List (List ℕ) → Trace → Type 0
Reads n before [] trace = before ≡ trace
Reads n before (line ∷ rest) trace = (fault_at n before line ≡ None) × Reads (n + 1) (with_line n before line) rest trace

-- the lines before it are right, and it is refused for this reason
pub record IsFirstWrong (bytes : List ℕ) (fault : ScriptFault) : Type 0 where
  pub good : List (List ℕ)
  pub bad : List ℕ
  pub rest : List (List ℕ)
  pub trace : Trace
  pub split : lines bytes ≡ good ++ bad ∷ rest
  pub line : fault.line ≡ length good + 1
  pub right : Reads 1 no_trace good trace
  pub why : fault_at fault.line trace bad ≡ Some fault.why

-- the fault of an input is that it is too long, or else its first wrong line
abbrev pub FindsFirstWrong : Type 0
FindsFirstWrong = (bytes : List ℕ) (fault : ScriptFault) → trace_of bytes ≡ Err fault
    → ((is_short bytes ≡ false) × (fault ≡ record { line = 0; why = Limit })) ⊎ ((is_short bytes ≡ true) × IsFirstWrong bytes fault)

-- a trace has no wrong line
abbrev pub RefusesNothing : Type 0
RefusesNothing = (bytes : List ℕ) (trace : Trace) → trace_of bytes ≡ Ok trace → (is_short bytes ≡ true) × Reads 1 no_trace (lines bytes) trace

-- bytes with no wrong line are a trace
abbrev pub AcceptsRight : Type 0
AcceptsRight = (bytes : List ℕ) (trace : Trace) → is_short bytes ≡ true → Reads 1 no_trace (lines bytes) trace → trace_of bytes ≡ Ok trace
