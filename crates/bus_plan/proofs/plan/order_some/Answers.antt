use Rattle.std.proofs.Common.{◌++◌, length, sym, ap, subst, arith}
use Rattle.std.specs.Prelude.{filter}
use Rattle.std.proofs.lemmas.List.{append-nil, take_all, length-map}
use Rattle.phase_plan.specs.Opened.{plain}
use Rattle.phase_plan.specs.declared.opening.Opening.{Opening as Place}
use Rattle.bus_plan.specs.Plans.{EachOrdered, is_of}
use Rattle.bus_plan.proofs.Ordering.{ordered_next}
use Rattle.bus_plan.proofs.plan.order_some.Goals as goal

pub order_if-requires-clause-inside : goal.order_if-requires-clause-inside
order_if-requires-clause-inside c = c.requires.within c.loop-opening.opening-index _ c.loop-opening-test.true

pub loop-opening-init : goal.loop-opening-init
loop-opening-init c p os before are each = subst (λ l. EachOrdered p l c.args.plan.now.items) (sym (append-nil before)) each

pub loop-opening-preserved : goal.loop-opening-preserved
loop-opening-preserved c p os before are each =
    let no_place : Place = record { relid = 0; device = 0; sub = 0 } in
    ordered_next (is_of c.args.firsts) p os before c.args.openings.now c.args.subs.now c.args.devices.now c.loop-opening.opening-index no_place c.loop-opening.plan.items c.order_if.new.plan.items are c.loop-opening-test.true c.in_ok-order_if.ensures
    (c.loop-opening.invariant p os before are each)

pub returns : goal.returns
returns c p os before are each =
    let long = length-map os plain in
    subst (λ l. EachOrdered p (before ++ filter (λ o. is_of c.args.firsts (plain o)) l) c.loop-opening.plan.items) (take_all c.loop-opening.opening-index os (omega (arith, long, ap length are.same, c.loop-opening-test.false)))
    (c.loop-opening.invariant p os before are each)
