use Rattle.std.proofs.Common.{◌≡◌, ◌+◌, ◌*◌, ◌≤◌, drop}
use Rattle.std.specs.List.{sum}
use Rattle.script_generator.proofs.counts.sum_of.Given as goal

abbrev pub invariant-loop-byte : goal.invariant-loop-byte
invariant-loop-byte l = record {
  summed : l.total + sum (drop l.byte-index l.bytes) ≡ sum l.bytes;
  few : l.total ≤ 255 * l.byte-index;
}
