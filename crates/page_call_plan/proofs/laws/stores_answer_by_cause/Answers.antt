use Rattle.page_call_plan.proofs.Causing.{store_answers, store_lets}
use Rattle.page_call_plan.proofs.laws.stores_answer_by_cause.Goals as goal

pub returns-clause-cause : goal.returns-clause-cause
returns-clause-cause c = λ s got k e ss asks owed q w n sh fit some. store_answers s got k e ss asks owed sh fit q w n some

pub returns-clause-lets : goal.returns-clause-lets
returns-clause-lets c = λ s got k e ss asks owed q w n sh fit some all. store_lets s got k e ss asks owed sh fit q w n some all
