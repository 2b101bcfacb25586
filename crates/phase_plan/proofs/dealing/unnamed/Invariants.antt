use Rattle.std.proofs.Common.{◌≡◌, [], vec_len, vec_capacity}
use Rattle.phase_plan.specs.Told.{AreDealt}
use Rattle.phase_plan.proofs.dealing.unnamed.Given as goal

abbrev pub invariant-loop : goal.invariant-loop
invariant-loop l = record {
  len : vec_len l.devices ≡ l.counter;
  capacity : vec_capacity l.devices ≡ l.count;
  dealt : AreDealt [] l.devices.items;
}
