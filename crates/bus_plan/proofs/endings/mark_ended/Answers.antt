use Rattle.std.proofs.Common.{◌++◌, ◌∙◌, length, sym, subst, arith}
use Rattle.std.proofs.lemmas.List.{take_all}
use Rattle.bus_plan.specs.Heard.{IsBelow}
use Rattle.bus_plan.specs.Endings.{AreEnded}
use Rattle.bus_plan.proofs.Hearing.{below_at}
use Rattle.bus_plan.proofs.Noting.{ended_next}
use Rattle.bus_plan.proofs.endings.mark_ended.Goals as goal

pub end-requires : goal.end-requires
end-requires c =
    subst (λ n. IsBelow n c.line-item.result.what) (sym c.loop-line.invariant.count) (below_at (length c.args.ended.now) c.args.part.now c.loop-line.line-index c.line-item.result c.requires c.loop-line-test.true c.line-item.is)

pub loop-line-preserved : goal.loop-line-preserved
loop-line-preserved c = record {
  count = c.end.ensures.count ∙ c.loop-line.invariant.count;
  ended = λ front old. ended_next front c.args.part.now c.loop-line.line-index c.line-item.result c.loop-line.ended c.end.new.ended c.loop-line-test.true c.line-item.is (c.loop-line.invariant.ended front old) c.end.ensures;
}

pub returns-clause-ended : goal.returns-clause-ended
returns-clause-ended c front old =
    subst (λ l. AreEnded (front ++ l) c.loop-line.ended) (take_all c.loop-line.line-index c.args.part.now (omega (arith, c.loop-line-test.false))) (c.loop-line.invariant.ended front old)
