use Rattle.ring_call_plan.proofs.Sends.{ended_as}
use Rattle.ring_call_plan.proofs.send.send_done.Goals as goal

pub returns-clause-machine : goal.returns-clause-machine
returns-clause-machine c = ended_as c.args.end.now c.args.mask c.args.read c.end_send.result c.end_send.new.end c.ranges.mask.fits c.ranges.read.fits c.end_send.ensures.says c.end_send.ensures.end
