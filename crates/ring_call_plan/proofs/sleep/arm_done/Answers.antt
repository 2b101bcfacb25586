use Rattle.ring_call_plan.proofs.Sleeps.{ended_as}
use Rattle.ring_call_plan.proofs.sleep.arm_done.Goals as goal

pub returns-clause-machine : goal.returns-clause-machine
returns-clause-machine c = ended_as c.args.end.now c.args.write c.args.read c.args.mark c.end_arm.result c.end_arm.new.end c.ranges.write.fits c.end_arm.ensures.says c.end_arm.ensures.end
