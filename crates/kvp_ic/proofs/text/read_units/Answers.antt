use Rattle.std.proofs.Common.{length, drop, arith}
use Rattle.wire_table.specs.Rows.{numbers_in}
use Rattle.kvp_ic.proofs.TextLaws.{unit_read, units_read}
use Rattle.kvp_ic.proofs.text.read_units.Goals as goal

pub loop-i-preserved : goal.loop-i-preserved
loop-i-preserved c =
    let b = c.args.bytes.now in
    let n = length c.args.units.now in
    unit_read n c.loop-i.i c.args.at c.unit_at.result b c.loop-i.units (numbers_in 2 n (drop c.args.at b)) (omega arith) (omega arith) c.unit_at.ensures c.loop-i.invariant

pub returns : goal.returns
returns c =
    let b = c.args.bytes.now in
    let n = length c.args.units.now in
    units_read n c.loop-i.i c.loop-i.units (drop c.args.at b) (numbers_in 2 n (drop c.args.at b)) (omega arith) (omega arith) c.loop-i.invariant
