use Rattle.std.proofs.Common.{◌≡◌}
use Rattle.test_hostile_memory.proofs.worker_tests.scribble.Given as goal

-- The hand is of a ring of 512 cells
abbrev pub invariant-loop : goal.invariant-loop
invariant-loop l = l.hand.cells ≡ 512
