-- What checking an input gives.
use Rattle.std.specs.Prelude.{ℕ, ◌≡◌, Result, Ok, Err}
use Rattle.script_text.specs.declared.fault.Why6.{Why6}
use Rattle.script_text.specs.declared.fault.Why6.TheVariants.{Form as IsForm, UnknownName, Repeat, Range, Limit, Order}
use Rattle.script_text.specs.declared.fault.ScriptFault.{ScriptFault}
use Rattle.script_text.specs.declared.fault.ParseFault.{ParseFault}
use Rattle.script_text.specs.declared.fault.ParseFault.TheVariants.{Script as IsScript, Memory as NoMemory}
use Rattle.trace_model.specs.Traces.{IsVerdict}
use Rattle.trace_model.specs.declared.verdict.Verdict.{Verdict}
use Rattle.trace_lines.specs.Traces.{Trace, size_of}
use Rattle.trace_check.specs.declared.fault.TraceFault.{TraceFault}
use Rattle.trace_check.specs.declared.fault.TraceFault.TheVariants.{Form, Memory}

-- the number of a reason
abbrev pub number_of_why : Why6 → ℕ
number_of_why IsForm = 1
number_of_why UnknownName = 2
number_of_why Repeat = 3
number_of_why Range = 4
number_of_why Limit = 5
number_of_why Order = 6

-- the bytes are a trace, and its lines have this verdict, on rings of its size
pub record HasVerdict (wanted : Result Trace ScriptFault) (verdict : Verdict) : Type 0 where
  pub trace : Trace
  pub reads : wanted ≡ Ok trace
  pub is_verdict : IsVerdict (size_of trace) trace.lines verdict

-- the bytes are no trace: this is the first wrong line, and the number of the first reason against it
pub record HasFault (wanted : Result Trace ScriptFault) (line why : ℕ) : Type 0 where
  pub fault : ScriptFault
  pub refused : wanted ≡ Err fault
  pub line_is : line ≡ fault.line
  pub why_is : why ≡ number_of_why fault.why

-- the verdict; the input's fault; or memory was short
abbrev pub ChecksLines : Result Trace ScriptFault → Result Verdict ParseFault → Type 0
ChecksLines wanted (Ok verdict) = HasVerdict wanted verdict
ChecksLines wanted (Err (IsScript fault)) = wanted ≡ Err fault
ChecksLines wanted (Err NoMemory) = Unit {0}

-- the same, with a reason by its number
abbrev pub Checks : Result Trace ScriptFault → Result Verdict TraceFault → Type 0
Checks wanted (Ok verdict) = HasVerdict wanted verdict
Checks wanted (Err (Form line why)) = HasFault wanted line why
Checks wanted (Err Memory) = Unit {0}
