use Rattle.ring_call_plan.proofs.Takes.{begun_as}
use Rattle.ring_call_plan.proofs.take.take_plan.Goals as goal

pub returns-clause-machine : goal.returns-clause-machine
returns-clause-machine c = begun_as c.args.end.now c.args.write c.args.at.now c.plan_take.result c.plan_take.new.end c.plan_take.new.at c.plan_take.ensures.says c.plan_take.ensures.end c.plan_take.ensures.at
