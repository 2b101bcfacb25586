use Rattle.ring_call_plan.proofs.Sleeps.{polled_as}
use Rattle.ring_call_plan.proofs.sleep.poll_done.Goals as goal

pub returns-clause-machine : goal.returns-clause-machine
returns-clause-machine c = polled_as c.args.end.now c.args.signal c.end_poll.result c.end_poll.new.end c.end_poll.ensures.says c.end_poll.ensures.end
