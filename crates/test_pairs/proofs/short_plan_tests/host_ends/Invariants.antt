use Rattle.worker_pair.specs.Workers.{IsLive}
use Rattle.test_pairs.proofs.short_plan_tests.host_ends.Given as goal

abbrev pub invariant-loop : goal.invariant-loop
invariant-loop g l = IsLive l.guest × IsLive l.host
