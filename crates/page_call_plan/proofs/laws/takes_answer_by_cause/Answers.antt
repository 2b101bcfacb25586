use Rattle.page_call_plan.proofs.Causing.{take_answers, take_lets, took_answers, load_lets}
use Rattle.page_call_plan.proofs.laws.takes_answer_by_cause.Goals as goal

pub returns-clause-cause : goal.returns-clause-cause
returns-clause-cause c = λ s got k e ss asks owed sh fit. take_answers s got k e ss asks owed sh fit

pub returns-clause-lets : goal.returns-clause-lets
returns-clause-lets c = λ s got k e ss asks owed sh fit clear slot. take_lets s got k e ss asks owed sh fit clear slot

pub returns-clause-done : goal.returns-clause-done
returns-clause-done c = λ s got k e ss asks owed p sh all says packet. took_answers s got k e ss asks owed sh all p says packet

pub returns-clause-loads : goal.returns-clause-loads
returns-clause-loads c = load_lets
