use Rattle.ring_call_plan.proofs.Commits.{ended_as}
use Rattle.ring_call_plan.proofs.commit.commit_done.Goals as goal

pub returns-clause-machine : goal.returns-clause-machine
returns-clause-machine c = ended_as c.args.end.now c.args.feature c.args.pending c.args.write c.end_commit.result c.end_commit.new.end c.ranges.feature.fits c.ranges.pending.fits c.ranges.write.fits c.end_commit.ensures.says c.end_commit.ensures.end
