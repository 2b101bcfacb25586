use Rattle.ring_call_plan_laws.proofs.Wholes.{is_call, is_run}
use Rattle.ring_call_plan_laws.proofs.laws.plans_are_calls.Goals as goal

pub returns-clause-call : goal.returns-clause-call
returns-clause-call c s e d shows rests = is_call s e shows rests d

pub returns-clause-run : goal.returns-clause-run
returns-clause-run c = is_run
