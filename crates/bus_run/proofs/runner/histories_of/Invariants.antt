use Rattle.std.proofs.Common.{◌≡◌, length, drop}
use Rattle.std.specs.Vec.Iter.{into_iter_items, into_iter_len}
use Rattle.bus_run.proofs.Phases.{HistoriesSoFar}
use Rattle.bus_run.proofs.runner.histories_of.Given as goal

abbrev pub invariant-loop-own : goal.invariant-loop-own
invariant-loop-own l = record {
  so_far : HistoriesSoFar (length l.histories.items) l.fn.boxes.items l.histories.items;
  left : into_iter_items l.own-iterator ≡ drop (length l.histories.items) l.fn.boxes.items;
  count : into_iter_len l.own-iterator ≡ length (into_iter_items l.own-iterator);
}
