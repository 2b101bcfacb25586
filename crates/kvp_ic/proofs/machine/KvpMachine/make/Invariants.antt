use Rattle.std.proofs.Common.{◌≡◌, [], replicate}
use Rattle.kvp_ic.proofs.machine.KvpMachine.make.Given as goal

abbrev pub invariant-loop-i : goal.invariant-loop-i
invariant-loop-i l = l.pools.items ≡ replicate l._i []
