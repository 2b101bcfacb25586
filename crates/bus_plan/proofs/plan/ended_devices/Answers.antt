use Rattle.std.proofs.Common.{◌≡◌, ◌∙◌, map, ap, sym, subst, arith, length}
use Rattle.std.specs.Prelude.{is_some}
use Rattle.std.proofs.lemmas.List.{take_all, length-map}
use Rattle.phase_plan.specs.Opened.{AreEnded}
use Rattle.bus_plan.proofs.Ordering.{have_ended}
use Rattle.bus_plan.proofs.plan.ended_devices.Goals as goal

pub returns-clause-count : goal.returns-clause-count
returns-clause-count c =
    let all : c.loop-ending.all.items ≡ map is_some c.args.ended.now = c.loop-ending.invariant.all ∙ ap (map is_some) (take_all c.loop-ending.ending-index c.args.ended.now (omega (arith, c.loop-ending-test.false))) in
    ap length all ∙ length-map c.args.ended.now is_some

pub returns-clause-ended : goal.returns-clause-ended
returns-clause-ended c earlier are =
    let all : c.loop-ending.all.items ≡ map is_some c.args.ended.now = c.loop-ending.invariant.all ∙ ap (map is_some) (take_all c.loop-ending.ending-index c.args.ended.now (omega (arith, c.loop-ending-test.false))) in
    subst (AreEnded earlier) (sym all) (have_ended earlier c.args.ended.now are)
