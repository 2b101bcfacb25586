use Rattle.std.proofs.Common.{◌≡◌, ◌++◌, map}
use Rattle.std.specs.List.{range_with_len}
use Rattle.script_generator.specs.Load.{write_line}
use Rattle.script_generator.proofs.making.push_writes.Given as goal

abbrev pub invariant-loop-block : goal.invariant-loop-block
invariant-loop-block l = l.lines.items ≡ l.fn.lines.items ++ map (write_line l.seed) (range_with_len 0 l.block)
