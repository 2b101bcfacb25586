use Rattle.std.proofs.Common.{◌+◌, ◌*◌, drop, arith}
use Rattle.wire_table.specs.Rows.{numbers_in}
use Rattle.kvp_ic.specs.Texts.{wrong_unit}
use Rattle.kvp_ic.proofs.TextLaws.{right_step, wrong_step, none_wrong}
use Rattle.kvp_ic.proofs.text.wrong_unit.Goals as goal

pub loop-i-preserved : goal.loop-i-preserved
loop-i-preserved c =
    let b = c.args.bytes.now in
    right_step c.args.n c.loop-i.i c.args.at b c.unit_at-unit.result c.is_right.result (wrong_unit 0 (numbers_in 2 c.args.n (drop c.args.at b))) (omega arith) c.unit_at-unit.ensures c.is_right.ensures c.loop-i.invariant c.if-not-is_right.false

pub returns-then-not-is_right-clause-value : goal.returns-then-not-is_right-clause-value
returns-then-not-is_right-clause-value c =
    let b = c.args.bytes.now in
    wrong_step c.args.n c.loop-i.i c.args.at b c.unit_at-unit.result c.is_right.result (wrong_unit 0 (numbers_in 2 c.args.n (drop c.args.at b))) (omega arith) c.unit_at-unit.ensures c.is_right.ensures c.loop-i.invariant c.if-not-is_right.true

pub returns-clause-value : goal.returns-clause-value
returns-clause-value c =
    let b = c.args.bytes.now in
    none_wrong c.args.n c.loop-i.i (drop (c.args.at + 2 * c.loop-i.i) b) (wrong_unit 0 (numbers_in 2 c.args.n (drop c.args.at b))) (omega arith) c.loop-i.invariant
