use Rattle.std.proofs.Common.{◌≡◌, ◌+◌, ◌-◌, ◌*◌, drop}
use Rattle.wire_table.specs.Rows.{numbers_in}
use Rattle.kvp_ic.specs.Texts.{wrong_unit}
use Rattle.kvp_ic.proofs.text.wrong_unit.Given as goal

abbrev pub invariant-loop-i : goal.invariant-loop-i
invariant-loop-i l = wrong_unit l.i (numbers_in 2 (l.n - l.i) (drop (l.at + 2 * l.i) l.bytes)) ≡ wrong_unit 0 (numbers_in 2 l.n (drop l.at l.bytes))
