use Rattle.std.proofs.Common.{◌≡◌, ℕ, ◌≤◌, ◌<◌, true, length}
use Rattle.std.specs.Str.Lines.{lines}
use Rattle.trace_lines.specs.Ranges.{IsPages}
use Rattle.trace_lines.specs.Traces.{Trace, read_from, no_trace, is_short}
use Rattle.trace_check.specs.Reading.{Keeps, made_in}
use Rattle.trace_check.proofs.verdict.check_lines.Given as goal

abbrev pub invariant-loop-line : goal.invariant-loop-line
invariant-loop-line l = record {
  read : (t : Trace) × (read_from l.number t (lines l.rest) ≡ read_from 1 no_trace (lines l.fn.bytes)) × Keeps t l.reading;
  short : is_short l.fn.bytes ≡ true;
  pages : IsPages l.reading.ring;
  number : l.number ≤ 20001;
  steps : made_in l.reading < l.number;
}

abbrev pub decreases-loop-line : goal.decreases-loop-line
decreases-loop-line l = length l.rest
