use Rattle.bus_model.proofs.FromLists.{serves_first_lem, as_scripted}
use Rattle.bus_model.proofs.laws.serves_first.Goals as goal

pub returns-clause-first : goal.returns-clause-first
returns-clause-first c = serves_first_lem

pub returns-clause-others : goal.returns-clause-others
returns-clause-others c = as_scripted
