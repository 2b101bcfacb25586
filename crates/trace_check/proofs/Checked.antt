-- What reading all lines gives.
use Rattle.std.proofs.Common.{◌≡◌, ℕ, ◌+◌, true, List, [], ◌∷◌, Option, Some, None, Result, Ok, Err, refl, sym, ◌∙◌, ap}
use Rattle.std.specs.Str.Lines.{lines}
use Rattle.script_text.specs.declared.fault.Why6.{Why6}
use Rattle.script_text.specs.declared.fault.ScriptFault.{ScriptFault}
use Rattle.script_text.specs.declared.fault.ParseFault.{ParseFault}
use Rattle.script_text.specs.declared.fault.ParseFault.TheVariants.{Script as IsScript, Memory}
use Rattle.trace_lines.specs.Traces.{Trace, fault_at, with_line, or_fault, read_from, no_trace, is_short, trace_of}
use Rattle.trace_check.specs.Reading.{IsWrongAt}
use Rattle.trace_check.specs.Checks.{ChecksLines}

-- all lines are read
pub checked_all : (bytes rest : List ℕ) (n : ℕ) (t : Trace) → is_short bytes ≡ true → read_from n t (lines rest) ≡ read_from 1 no_trace (lines bytes) → lines rest ≡ []
    → trace_of bytes ≡ Ok t
checked_all bytes rest n t short read none = rw short (sym read ∙ ap (read_from n t) none)

-- a line is right
pub checked_on : (bytes rest line : List ℕ) (more : List (List ℕ)) (n : ℕ) (t : Trace) → read_from n t (lines rest) ≡ read_from 1 no_trace (lines bytes) → lines rest ≡ line ∷ more
    → fault_at n t line ≡ None → read_from (n + 1) (with_line n t line) more ≡ read_from 1 no_trace (lines bytes)
checked_on bytes rest line more n t read cut right =
    sym (ap (λ (w : Option Why6). or_fault w n (read_from (n + 1) (with_line n t line) more)) right) ∙ (sym (ap (read_from n t) cut) ∙ read)

-- a line is wrong
pub checked_wrong : (bytes rest line : List ℕ) (more : List (List ℕ)) (n : ℕ) (t : Trace) (fault : ParseFault) → is_short bytes ≡ true
    → read_from n t (lines rest) ≡ read_from 1 no_trace (lines bytes) → lines rest ≡ line ∷ more → IsWrongAt n t line fault → ChecksLines (trace_of bytes) (Err fault)
checked_wrong bytes rest line more n t (IsScript fault) short read cut wrong =
    let here : read_from n t (line ∷ more) ≡ Err fault =
    ap (λ (w : Option Why6). or_fault w n (read_from (n + 1) (with_line n t line) more)) wrong.1 ∙ ap (λ (k : ℕ). Err (record { line = k; why = fault.why })) (sym wrong.0) in
    rw short (sym read ∙ (ap (read_from n t) cut ∙ here))
checked_wrong bytes rest line more n t Memory short read cut wrong = tt
