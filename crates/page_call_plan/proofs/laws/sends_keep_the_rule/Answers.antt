use Rattle.page_call_plan.proofs.Showing.{may_send, sends_show, sends_exact}
use Rattle.page_call_plan.proofs.laws.sends_keep_the_rule.Goals as goal

pub returns-clause-may : goal.returns-clause-may
returns-clause-may c = λ s got k e ss asks owed n p sh says. may_send s got k e ss asks owed sh n p says

pub returns-clause-shows : goal.returns-clause-shows
returns-clause-shows c = λ s got k e ss asks owed n p sh says. sends_show s got k e ss asks owed sh n p says

pub returns-clause-exact : goal.returns-clause-exact
returns-clause-exact c = λ s got k e ss asks owed n p sh says x. sends_exact s got k e ss asks owed sh n p says x
