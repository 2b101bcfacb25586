use Rattle.ring_call_plan.proofs.Sleeps.{said_as}
use Rattle.ring_call_plan.proofs.sleep.mark_done.Goals as goal

pub returns-clause-machine : goal.returns-clause-machine
returns-clause-machine c = said_as c.args.end.now c.say_all.result c.say_all.new.end c.say_all.ensures.says c.say_all.ensures.end
