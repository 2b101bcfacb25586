use Rattle.std.proofs.Common.{◌≡◌, true}
use Rattle.ring_end_history.specs.Calls.{Came}
use Rattle.ring_sleep.specs.Sleeping.{Sleeps}
use Rattle.ring_sleep.proofs.waiting.sleep.Given as goal

abbrev pub invariant-loop : goal.invariant-loop
invariant-loop g l = record {
  can : (goal.iterator-loop g).can_next l.iterator';
  ends : (goal.iterator-loop g).is_finite l.iterator';
  asleep : l.e.state.machine.asleep ≡ true;
  slept : Sleeps g.S.Parks.channel g.S.Seatlike.told l.initial.e l.e;
  came : Came g.S.Seatlike.tale l.initial.e l.e;
}
