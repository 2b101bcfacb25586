use Rattle.std.proofs.Common.{◌≡◌, vec_len, vec_capacity}
use Rattle.std.specs.List.{range_with_len}
use Rattle.control_model.proofs.sending.numbers.Given as goal

abbrev pub invariant-loop-i : goal.invariant-loop-i
invariant-loop-i l = record {
  items : l.pages.items ≡ range_with_len l.first l.i;
  len : vec_len l.pages ≡ l.i;
  room : vec_capacity l.pages ≡ l.count;
}
