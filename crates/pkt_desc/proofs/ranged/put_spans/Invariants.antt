use Rattle.std.proofs.Common.{◌≡◌, ◌*◌, ◌++◌, length, take, drop}
use Rattle.std.specs.List.{flat_map}
use Rattle.pkt_desc.specs.Built.{words_of_span}
use Rattle.pkt_desc.proofs.ranged.put_spans.Given as goal

abbrev pub invariant-loop-i : goal.invariant-loop-i
invariant-loop-i l = record {
  so_far : take (2 * l.i) l.out ++ flat_map words_of_span (drop l.i l.spans) ≡ flat_map words_of_span l.spans;
  len : length l.out ≡ length l.fn.out;
  rest : drop (2 * length l.spans) l.out ≡ drop (2 * length l.spans) l.fn.out;
}
