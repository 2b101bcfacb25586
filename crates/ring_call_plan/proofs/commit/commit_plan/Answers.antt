use Rattle.ring_call_plan.proofs.Commits.{begun_as}
use Rattle.ring_call_plan.proofs.commit.commit_plan.Goals as goal

pub returns-clause-machine : goal.returns-clause-machine
returns-clause-machine c = begun_as c.args.end.now c.args.index.now c.plan_commit.result c.plan_commit.new.end c.plan_commit.new.index c.plan_commit.ensures.says c.plan_commit.ensures.end c.plan_commit.ensures.index
