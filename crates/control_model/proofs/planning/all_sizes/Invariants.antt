use Rattle.std.proofs.Common.{◌≡◌, map, vec_len, vec_capacity}
use Rattle.std.specs.List.{range_with_len}
use Rattle.script_lines.specs.Parts.{ring_pages_of}
use Rattle.control_model.proofs.planning.all_sizes.Given as goal

abbrev pub invariant-loop-device : goal.invariant-loop-device
invariant-loop-device l = record {
  sizes : l.sizes.items ≡ map (λ device. ring_pages_of device l.lines) (range_with_len 0 l.device);
  len : vec_len l.sizes ≡ l.device;
  capacity : vec_capacity l.sizes ≡ l.count;
}
