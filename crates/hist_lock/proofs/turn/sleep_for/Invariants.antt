use Rattle.std.proofs.Common.{◌≡◌}
use Rattle.hist_lock.proofs.turn.sleep_for.Given as goal

abbrev pub invariant-loop : goal.invariant-loop
invariant-loop g l = record {
  can : (goal.iterator-loop g).can_next l.iterator';
  ends : (goal.iterator-loop g).is_finite l.iterator';
  same : l.seat.table_id ≡ l.initial.seat.table_id;
  waits : l.seat.me ≡ l.initial.seat.me;
}
