-- What a checker keeps of an input so far.
use Rattle.std.specs.Prelude.{◌≡◌, ℕ, List, Some}
use Rattle.script_text.specs.declared.fault.ParseFault.{ParseFault}
use Rattle.script_text.specs.declared.fault.ParseFault.TheVariants.{Script as IsScript, Memory}
use Rattle.trace_lines.specs.Traces.{Trace, starts, size_of, fault_at}
use Rattle.trace_check.specs.declared.reading.Reading.{Reading}
use Rattle.trace_check.specs.Following.{Follows, done_in}

-- it knows the pages of the trace so far, whether that has no line with words, and the verdict on its lines
pub record Keeps (t : Trace) (r : Reading) : Type 0 where
  pub ring : r.ring ≡ t.ring
  pub first : r.first ≡ starts t
  pub follows : Follows (size_of t) t.lines r.watch

abbrev pub made_in : Reading → ℕ
made_in r = done_in r.watch

-- this is the reason against the line; or memory was short
abbrev pub IsWrongAt : ℕ → Trace → List ℕ → ParseFault → Type 0
IsWrongAt number t line (IsScript fault) = (fault.line ≡ number) × (fault_at number t line ≡ Some fault.why)
IsWrongAt number t line Memory = Unit {0}
