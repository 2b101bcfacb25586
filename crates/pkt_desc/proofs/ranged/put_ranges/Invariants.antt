use Rattle.std.proofs.Common.{◌≡◌, ◌++◌, length, map, take, drop}
use Rattle.pkt_desc.specs.Built.{range_word, range_of}
use Rattle.pkt_desc.proofs.ranged.put_ranges.Given as goal

abbrev pub invariant-loop-i : goal.invariant-loop-i
invariant-loop-i l = record {
  so_far : take l.i l.out ++ map range_word (drop l.i l.ranges) ≡ map range_word l.ranges;
  read : map range_of (map range_word (take l.i l.ranges)) ≡ take l.i l.ranges;
  len : length l.out ≡ length l.fn.out;
  rest : drop (length l.ranges) l.out ≡ drop (length l.ranges) l.fn.out;
}
