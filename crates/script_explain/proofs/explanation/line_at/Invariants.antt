use Rattle.std.proofs.Common.{◌≡◌, drop}
use Rattle.std.specs.Str.Lines.{lines}
use Rattle.script_explain.proofs.explanation.line_at.Given as goal

-- what is left are the lines behind those that were passed over
abbrev pub invariant-loop : goal.invariant-loop
invariant-loop l = lines l.rest ≡ drop l.counter (lines l.fn.bytes)
