use Rattle.std.proofs.Common.{◌≡◌, ◌+◌, ◌*◌, ◌≤◌, drop}
use Rattle.std.specs.List.{sum}
use Rattle.script_generator.specs.Counts.{bytes_read}
use Rattle.script_generator.proofs.counts.sum_read.Given as goal

abbrev pub invariant-loop-outcome : goal.invariant-loop-outcome
invariant-loop-outcome l = record {
  summed : l.total + sum (bytes_read (drop l.outcome-index l.results)) ≡ sum (bytes_read l.results);
  few : l.total ≤ 1044480 * l.outcome-index;
}
