use Rattle.page_call_plan.proofs.Causing.{send_answers, send_lets, sent_lets}
use Rattle.page_call_plan.proofs.laws.sends_answer_by_cause.Goals as goal

pub returns-clause-cause : goal.returns-clause-cause
returns-clause-cause c = λ s got k e ss asks owed n p sh x fit packet. send_answers s got k e ss asks owed sh x n p fit packet

pub returns-clause-lets : goal.returns-clause-lets
returns-clause-lets c = λ s got k e ss asks owed n p sh x fit packet may slot. send_lets s got k e ss asks owed sh x n p fit packet may slot

pub returns-clause-done : goal.returns-clause-done
returns-clause-done c = sent_lets
