-- The trace that bytes are.
use Rattle.std.specs.Prelude.{ℕ, ◌+◌, Bool, true, false, nat_le, List, [], ◌∷◌, ◌++◌, length, Option, Some, None, Result, Ok, Err, if◌then◌else◌}
use Rattle.std.specs.Str.Lines.{lines}
use Rattle.script_text.specs.declared.fault.Why6.{Why6}
use Rattle.script_text.specs.declared.fault.Why6.TheVariants.{Limit}
use Rattle.script_text.specs.declared.fault.ScriptFault.{ScriptFault}
use Rattle.trace_model.specs.Traces.{TraceLine}
use Rattle.trace_model.specs.declared.what.TraceWhat.{TraceWhat}
use Rattle.trace_lines.specs.declared.said.Said.{Said}
use Rattle.trace_lines.specs.declared.said.Said.TheVariants.{Nothing, Ring, Says}
use Rattle.trace_lines.specs.Rows.{said_in}
use Rattle.trace_lines.specs.Faults.{data_of, fault_of}

-- the pages of each ring, where a line says them, and the lines that say a call or a step
pub record Trace : Type 0 where
  pub ring : Option ℕ
  pub lines : List TraceLine

-- no line with words stands before
abbrev pub is_first : Option ℕ → List TraceLine → Bool
is_first None [] = true
is_first None (l ∷ ls) = false
is_first (Some pages) ls = false

abbrev pub starts : Trace → Bool
starts t = is_first t.ring t.lines

-- the bytes of data of each of its rings
abbrev pub size_of : Trace → ℕ
size_of t = data_of t.ring

-- what a line says by itself, behind these lines
abbrev pub said_at : Trace → List ℕ → Option Said
said_at before line = said_in (size_of before) line

-- the first reason against a line
abbrev pub fault_at : ℕ → Trace → List ℕ → Option Why6
fault_at number before line = fault_of number (starts before) (said_at before line)

-- a line that says a call or a step, with its number, or none
abbrev pub numbered : ℕ → Option TraceWhat → List TraceLine
numbered number None = []
numbered number (Some what) = record { number = number; what = what } ∷ []

-- these lines, and behind them one that says this
abbrev pub with_said : ℕ → Trace → Option Said → Trace
with_said number before None = before
with_said number before (Some Nothing) = before
with_said number before (Some (Ring pages)) = record { ring = pages; lines = before.lines }
with_said number before (Some (Says what)) = record { ring = before.ring; lines = before.lines ++ numbered number what }

abbrev pub with_line : ℕ → Trace → List ℕ → Trace
with_line number before line = with_said number before (said_at before line)

-- the fault of this line, or what the rest gives
abbrev pub or_fault : Option Why6 → ℕ → Result Trace ScriptFault → Result Trace ScriptFault
or_fault (Some why) number rest = Err (record { line = number; why = why })
or_fault None number rest = rest

-- each line stands after the lines before it; the first that is refused is the trace's fault
abbrev pub read_from : ℕ → Trace → List (List ℕ) → Result Trace ScriptFault
read_from number before [] = Ok before
read_from number before (line ∷ rest) = or_fault (fault_at number before line) number (read_from (number + 1) (with_line number before line) rest)

abbrev pub no_trace : Trace
no_trace = record { ring = None; lines = [] }

-- Limit, of line 0: an input has no more than a mebibyte
abbrev pub is_short : List ℕ → Bool
is_short bytes = nat_le (length bytes) 1048576

-- the trace that bytes are, or its fault
abbrev pub trace_of : List ℕ → Result Trace ScriptFault
trace_of bytes = if is_short bytes then read_from 1 no_trace (lines bytes) else Err (record { line = 0; why = Limit })
