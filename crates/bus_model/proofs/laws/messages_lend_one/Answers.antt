use Rattle.bus_model.proofs.Owning.{lends_own_lem, messages_lend_one_lem}
use Rattle.bus_model.proofs.laws.messages_lend_one.Goals as goal

pub returns-clause-pages : goal.returns-clause-pages
returns-clause-pages c = lends_own_lem

pub returns-clause-turns : goal.returns-clause-turns
returns-clause-turns c = messages_lend_one_lem
