use Rattle.std.proofs.Common.{◌≡◌, ◌+◌, ◌-◌, ◌≤◌, drop}
use Rattle.pkt_desc.specs.Ranges.{spans_words}
use Rattle.pkt_desc.proofs.ranges.spans_fit.Given as goal

abbrev pub invariant-loop : goal.invariant-loop
invariant-loop l = record {
  left : l.at + spans_words (l.count - l.counter) (drop l.at l.words) ≡ 3 + spans_words l.count (drop 3 l.words);
  near : l.at ≤ 10000000000;
}
