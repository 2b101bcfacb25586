use Rattle.std.proofs.Common.{◌≡◌, ◌++◌, replicate}
use Rattle.script_explain.proofs.explanation.push_times.Given as goal

-- as many bytes as were counted
abbrev pub invariant-loop : goal.invariant-loop
invariant-loop l = l.text.items ≡ l.initial.text.items ++ replicate l.counter l.byte
