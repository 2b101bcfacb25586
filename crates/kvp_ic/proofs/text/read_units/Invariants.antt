use Rattle.std.proofs.Common.{◌≡◌, ◌-◌, ◌*◌, ◌++◌, length, take, drop}
use Rattle.wire_table.specs.Rows.{numbers_in}
use Rattle.kvp_ic.proofs.text.read_units.Given as goal

abbrev pub invariant-loop-i : goal.invariant-loop-i
invariant-loop-i l = take l.i l.units ++ numbers_in 2 (length l.fn.units - l.i) (drop (2 * l.i) (drop l.at l.bytes)) ≡ numbers_in 2 (length l.fn.units) (drop l.at l.bytes)
