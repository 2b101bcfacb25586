use Rattle.std.proofs.Common.{◌≡◌, ◌-◌, ◌++◌, take, length}
use Rattle.wire_table.specs.Little.{bytes_of}
use Rattle.wire_table.proofs.little.spell.Given as goal

abbrev pub invariant-loop-x : goal.invariant-loop-x
invariant-loop-x l =
    take l.x-index l.field ++ bytes_of (length l.fn.field - l.x-index) l.left ≡ bytes_of (length l.fn.field) l.v
