use Rattle.std.proofs.Common.{◌≡◌, replicate, None}
use Rattle.bus_run.proofs.runner.none_ended.Given as goal

abbrev pub invariant-loop : goal.invariant-loop
invariant-loop l = l.ended.items ≡ replicate l.counter None
