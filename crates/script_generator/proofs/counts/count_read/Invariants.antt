use Rattle.std.proofs.Common.{◌≡◌, ◌+◌, ◌*◌, ◌≤◌, length, drop}
use Rattle.script_generator.specs.Counts.{bytes_read}
use Rattle.script_generator.proofs.counts.count_read.Given as goal

abbrev pub invariant-loop-outcome : goal.invariant-loop-outcome
invariant-loop-outcome l = record {
  counted : l.count + length (bytes_read (drop l.outcome-index l.results)) ≡ length (bytes_read l.results);
  few : l.count ≤ 4096 * l.outcome-index;
}
