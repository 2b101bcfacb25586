-- The verdict on a recorded run.
use Rattle.std.specs.Prelude.{◌≡◌, ℕ, List, Ok}
use Rattle.trace_model.specs.Traces.{IsVerdict}
use Rattle.trace_model.specs.declared.verdict.Verdict.{Verdict}
use Rattle.trace_lines.specs.Traces.{Trace, size_of, trace_of}
use Rattle.trace_check.specs.Text.{verdict_text}

-- the input is a trace, and the output is the text of the verdict on its lines
pub record IsTraceAnswer (input output : List ℕ) : Type 0 where
  pub trace : Trace
  pub reads : trace_of input ≡ Ok trace
  pub verdict : Verdict
  pub is_verdict : IsVerdict (size_of trace) trace.lines verdict
  pub text : output ≡ verdict_text verdict
