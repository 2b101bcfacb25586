use Rattle.vmbus_main.proofs.Parting.{over}
use Rattle.vmbus_main.proofs.run.has_phase.Goals as goal

pub returns-clause-more : goal.returns-clause-more
returns-clause-more c = λ some. (c.has_next.ensures c.args.script.now c.requires).0 some

pub returns-clause-over : goal.returns-clause-over
returns-clause-over c = λ none. over c.args.script.now c.args.runner.now c.has_next.result c.requires (c.has_next.ensures c.args.script.now c.requires) none
