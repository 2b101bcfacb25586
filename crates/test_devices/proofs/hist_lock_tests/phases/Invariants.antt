use Rattle.hist_lock.specs.History.{entries_of}
use Rattle.hist_lock.specs.Legal.{Leaves}
use Rattle.test_devices.proofs.hist_lock_tests.phases.Given as goal

abbrev pub invariant-loop : goal.invariant-loop
invariant-loop g l = let m = g.M.Machine in Leaves m.first m.after m.reply_to (entries_of l.history) l.state
