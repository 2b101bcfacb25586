use Rattle.std.proofs.Common.{◌≡◌}
use Rattle.test_sock.proofs.told_tests.sock.Given as goal

abbrev pub invariant-loop-i : goal.invariant-loop-i
invariant-loop-i g l = (l.told.cells ≡ 512) × (l.told.pages ≡ 0)
