use Rattle.page_call_plan.proofs.Showing.{stores_may, stores_show, loaded_all}
use Rattle.page_call_plan.proofs.laws.words_keep_the_rule.Goals as goal

pub returns-clause-may : goal.returns-clause-may
returns-clause-may c = λ s got k e ss asks owed q w n sh says. stores_may s got k e ss asks owed q w n sh says

pub returns-clause-stored : goal.returns-clause-stored
returns-clause-stored c = λ s got k e ss asks owed n q w vs sh. stores_show s got k e ss asks owed n q w vs sh

pub returns-clause-loaded : goal.returns-clause-loaded
returns-clause-loaded c = λ s got k e ss asks owed p vs sh says long. loaded_all s got k e ss asks owed p vs sh says long
