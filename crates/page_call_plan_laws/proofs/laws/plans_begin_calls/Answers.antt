use Rattle.page_call_plan_laws.proofs.Calls.{begins_send, begins_take, begins_commit, begins_arm, begins_mark}
use Rattle.page_call_plan_laws.proofs.laws.plans_begin_calls.Goals as goal

pub returns-clause-send : goal.returns-clause-send
returns-clause-send c = λ r s e ss asks owed p n v h copied off sh lets used size. begins_send r s e ss asks owed h copied off sh p n v lets used size

pub returns-clause-take : goal.returns-clause-take
returns-clause-take c = λ r s e ss asks owed v h copied off sh lets used. begins_take r s e ss asks owed h copied off sh v lets used

pub returns-clause-commit : goal.returns-clause-commit
returns-clause-commit c = λ r s e ss asks owed h copied off sh lets used. begins_commit r s e ss asks owed h copied off sh lets used

pub returns-clause-arm : goal.returns-clause-arm
returns-clause-arm c = λ r s e ss asks owed want h copied off sh lets used. begins_arm r s e ss asks owed h copied off sh want lets used

pub returns-clause-mark : goal.returns-clause-mark
returns-clause-mark c = λ r s e ss asks owed h copied off sh lets used. begins_mark r s e ss asks owed h copied off sh lets used
