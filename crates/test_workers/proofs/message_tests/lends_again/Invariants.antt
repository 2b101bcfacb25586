use Rattle.std.proofs.Common.{◌≡◌, false}
use Rattle.test_workers.proofs.message_tests.lends_again.Given as goal

-- the worker hasn't ended
abbrev pub invariant-loop-i : goal.invariant-loop-i
invariant-loop-i g l = l.server.end.state.machine.marked ≡ false
