use Rattle.ring_call_plan.proofs.Sleeps.{begun_as}
use Rattle.ring_call_plan.proofs.sleep.arm_plan.Goals as goal

pub returns-clause-machine : goal.returns-clause-machine
returns-clause-machine c = begun_as c.args.end.now c.args.want c.plan_arm.result c.plan_arm.new.end c.plan_arm.ensures.says c.plan_arm.ensures.end
