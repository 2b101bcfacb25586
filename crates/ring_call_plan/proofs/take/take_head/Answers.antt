use Rattle.ring_call_plan.proofs.Takes.{ended_as, inside_as}
use Rattle.ring_call_plan.proofs.take.take_head.Goals as goal

pub returns-clause-inside : goal.returns-clause-inside
returns-clause-inside c = inside_as c.args.end.now c.args.head c.args.plan.now c.plan_head.result c.plan_head.new.plan c.plan_head.ensures.says c.plan_head.ensures.plan

pub returns-clause-machine : goal.returns-clause-machine
returns-clause-machine c = ended_as c.args.end.now c.args.head c.args.plan.now c.plan_head.result c.plan_head.new.end c.plan_head.new.plan c.plan_head.ensures.says c.plan_head.ensures.end c.plan_head.ensures.plan
