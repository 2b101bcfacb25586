use Rattle.std.proofs.Common.{◌≡◌, ◌*◌, take}
use Rattle.std.specs.List.{flat_map}
use Rattle.wire_table.specs.Little.{bytes_of}
use Rattle.kvp_ic.proofs.text.put_text.Given as goal

abbrev pub invariant-loop-i : goal.invariant-loop-i
invariant-loop-i l = take (2 * l.i) l.field ≡ flat_map (bytes_of 2) (take l.i l.units)
