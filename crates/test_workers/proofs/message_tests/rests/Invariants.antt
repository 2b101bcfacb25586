use Rattle.std.proofs.Common.{◌≡◌, false}
use Rattle.test_workers.proofs.message_tests.rests.Given as goal

-- the worker hasn't ended
abbrev pub invariant-loop : goal.invariant-loop
invariant-loop g l = l.server.end.state.machine.marked ≡ false
