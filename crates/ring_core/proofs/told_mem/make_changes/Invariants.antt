use Rattle.std.proofs.Common.{◌≡◌, ◌-◌, length, drop}
use Rattle.ring_core.specs.Told.{changed, later}
use Rattle.ring_core.proofs.told_mem.make_changes.Given as goal

abbrev pub invariant-loop-at : goal.invariant-loop-at
invariant-loop-at l = record {
  words : changed l.cells l.n (drop l.at l.changes.items) l.words.items ≡ changed l.cells l.n (drop l.from l.changes.items) l.initial.words.items;
  len : length l.words.items ≡ length l.initial.words.items;
  later : later l.n (drop l.at l.changes.items) ≡ later l.n (drop l.from l.changes.items);
}

abbrev pub decreases-loop-at : goal.decreases-loop-at
decreases-loop-at l = length l.changes.items - l.at
