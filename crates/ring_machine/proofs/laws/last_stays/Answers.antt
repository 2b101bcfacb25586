use Rattle.ring_machine.proofs.Lasting.{last_begins, last_feeds}
use Rattle.ring_machine.proofs.laws.last_stays.Goals as goal

pub returns-clause-begins : goal.returns-clause-begins
returns-clause-begins c = last_begins

pub returns-clause-feeds : goal.returns-clause-feeds
returns-clause-feeds c v = last_feeds c.args._core.now.machine v c.args._core.now.sound
