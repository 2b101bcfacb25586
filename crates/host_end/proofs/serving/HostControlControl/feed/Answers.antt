use Rattle.host_end.proofs.SideLaws.{feed_follows, feed_goes, feed_refuses}
use Rattle.host_end.proofs.serving.HostControlControl.feed.Goals as goal

pub returns-clause-follows : goal.returns-clause-follows
returns-clause-follows c = feed_follows c.args.self.now c.feed.new.self c.args.m.now c.args.post.now c.feed.new.post c.feed.result c.requires.follows c.requires.begun c.requires.«open» c.requires.next c.feed.ensures

pub returns-clause-taken : goal.returns-clause-taken
returns-clause-taken c = feed_goes c.args.self.now c.feed.new.self c.args.m.now c.args.post.now c.feed.new.post c.feed.result c.requires.follows c.requires.begun c.requires.«open» c.requires.next c.requires.post c.feed.ensures

pub returns-clause-refused : goal.returns-clause-refused
returns-clause-refused c = feed_refuses c.args.self.now c.feed.new.self c.args.m.now c.args.post.now c.feed.new.post c.feed.result c.requires.follows c.requires.begun c.requires.«open» c.requires.next c.feed.ensures
