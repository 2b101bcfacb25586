use Rattle.std.proofs.Common.{◌≡◌, ◌+◌, ◌-◌, ap, sym, arith, length}
use Rattle.std.proofs.lemmas.List.{drop_all}
use Rattle.wire_table.specs.Little.{number_of}
use Rattle.wire_table.proofs.LittleLemmas.{number_of_below, number_of_rest, number_of_step}
use Rattle.wire_table.proofs.little.number.Goals as goal

pub loop-i-init : goal.loop-i-init
unfolding number_of
loop-i-init c = sym (ap number_of (drop_all (length c.args.field.now) c.args.field.now (omega arith)))

pub overflow_mul-value : goal.overflow_mul-value
overflow_mul-value c =
    let low = number_of_rest c.args.field.now c.loop-i.i c.loop-i-test.true c.requires (λ k. omega (arith, c.type_inv.field k)) in
    omega (arith, low, c.loop-i.invariant)

pub overflow_add-value : goal.overflow_add-value
overflow_add-value c =
    let low = number_of_rest c.args.field.now c.loop-i.i c.loop-i-test.true c.requires (λ k. omega (arith, c.type_inv.field k)) in
    omega (arith, low, c.loop-i.invariant, c.type_inv.field (c.loop-i.i - 1), c.from.ensures)

pub loop-i-preserved : goal.loop-i-preserved
loop-i-preserved c =
    let e : c.loop-i.i - 1 + 1 ≡ c.loop-i.i = omega arith in
    let step = number_of_step c.args.field.now (c.loop-i.i - 1) (omega arith) in
    rw (c.from.ensures, c.loop-i.invariant) (sym (rw e at step))

pub returns-clause-fits : goal.returns-clause-fits
unfolding number_of
returns-clause-fits c =
    let low = number_of_below c.args.field.now (λ k. omega (arith, c.type_inv.field k)) in
    let i : c.loop-i.i ≡ 0 = omega arith in
    rw (c.loop-i.invariant, i) low
