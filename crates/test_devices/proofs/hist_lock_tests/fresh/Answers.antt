use Rattle.std.proofs.Common.{[], ◌∷◌, arith}
use Rattle.hist_lock.proofs.Rows.{new_all}
use Rattle.test_devices.proofs.hist_lock_tests.fresh.Goals as goal

pub close-requires : goal.close-requires
close-requires g c = new_all c.args.machine [] (0 ∷ 0 ∷ []) c.in_ok-seats.seats.items (omega arith) c.in_ok-seats.ensures
