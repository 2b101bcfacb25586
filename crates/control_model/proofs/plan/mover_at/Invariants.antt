use Rattle.std.proofs.Common.{◌≡◌, ◌≤◌, ◌+◌, drop, slice_get}
use Rattle.control_model.specs.Plan.{movers}
use Rattle.control_model.proofs.plan.mover_at.Given as goal

abbrev pub invariant-loop-o : goal.invariant-loop-o
invariant-loop-o l = record {
  mover : slice_get (movers (drop l.o-index l.openings)) l.left ≡ slice_get (movers l.openings) l.number;
  few : l.number ≤ l.left + l.o-index;
}
