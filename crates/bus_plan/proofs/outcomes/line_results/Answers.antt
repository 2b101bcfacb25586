use Rattle.std.proofs.Common.{◌≤◌, ◌∙◌, sym, subst, arith, length}
use Rattle.bus_plan.specs.Heard.{IsBelow}
use Rattle.bus_plan.proofs.Hearing.{below_at}
use Rattle.bus_plan.proofs.Telling.{told_start, told_more, told_end, has_next}
use Rattle.bus_plan.proofs.outcomes.line_results.Goals as goal

pub loop-line-init : goal.loop-line-init
loop-line-init c = told_start c.args.version.0 c.args.ended.now c.args.outcomes c.args.part.now c.args.results.now.items

pub tell_line-requires-clause-ended : goal.tell_line-requires-clause-ended
tell_line-requires-clause-ended c = below_at (length c.args.ended.now) c.args.part.now c.loop-line.line-index c.line-item.result c.requires.below c.loop-line-test.true c.line-item.is

pub tell_line-requires-clause-outcomes : goal.tell_line-requires-clause-outcomes
tell_line-requires-clause-outcomes c =
    subst (λ n. IsBelow n c.line-item.result.what) (sym (c.loop-line.invariant.long ∙ c.requires.devices))
    (below_at (length c.args.ended.now) c.args.part.now c.loop-line.line-index c.line-item.result c.requires.below c.loop-line-test.true c.line-item.is)

pub tell_line-requires-clause-has : goal.tell_line-requires-clause-has
tell_line-requires-clause-has c =
    has_next c.args.version.0 c.args.ended.now c.args.outcomes c.args.part.now c.loop-line.line-index c.line-item.result c.args.results.now.items c.loop-line.results.items c.loop-line.outcomes c.loop-line.invariant c.requires.has c.requires.below c.loop-line-test.true c.line-item.is

pub loop-line-preserved : goal.loop-line-preserved
loop-line-preserved c =
    told_more c.args.version.0 c.args.ended.now c.args.outcomes c.args.part.now c.loop-line.line-index c.line-item.result c.args.results.now.items c.loop-line.results.items c.tell_line.new.results.items c.loop-line.outcomes c.tell_line.new.outcomes c.requires.devices c.loop-line.invariant c.loop-line-test.true
    c.line-item.is c.in_ok-tell_line.ensures.tells c.in_ok-tell_line.ensures.on

pub returns : goal.returns
returns c =
    let over : length c.args.part.now ≤ c.loop-line.line-index = omega (arith, c.loop-line-test.false) in
    told_end c.args.version.0 c.args.ended.now c.args.outcomes c.args.part.now c.loop-line.line-index c.args.results.now.items c.loop-line.results.items c.loop-line.outcomes c.loop-line.invariant over
