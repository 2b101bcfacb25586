use Rattle.host_end.proofs.SideLaws.{begin_follows, begin_goes}
use Rattle.host_end.proofs.serving.HostControlControl.begin.Goals as goal

pub returns-clause-follows : goal.returns-clause-follows
returns-clause-follows c = begin_follows c.args.self.now c.begin.new.self c.args.part c.args.post.now c.begin.new.post c.begin.result c.requires.follows c.requires.part c.begin.ensures.begun c.begin.ensures.refused

pub returns-clause-begun : goal.returns-clause-begun
returns-clause-begun c = begin_goes c.args.self.now c.begin.new.self c.args.part c.begin.new.post c.begin.result c.requires.follows c.requires.part c.begin.ensures.begun
