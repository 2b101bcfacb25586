use Rattle.std.proofs.Common.{◌≡◌, ◌++◌, map}
use Rattle.std.specs.List.{range_with_len}
use Rattle.script_generator.specs.Load.{read_line}
use Rattle.script_generator.proofs.making.push_reads.Given as goal

abbrev pub invariant-loop-block : goal.invariant-loop-block
invariant-loop-block l = l.lines.items ≡ l.fn.lines.items ++ map (read_line l.half) (range_with_len 0 l.block)
