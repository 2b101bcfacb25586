use Rattle.ring_call_plan_laws.proofs.Stopping.{stops_so, refuses_so}
use Rattle.ring_call_plan_laws.proofs.laws.plans_refuse_by_cause.Goals as goal

pub returns-clause-cause : goal.returns-clause-cause
returns-clause-cause c = stops_so

pub returns-clause-refusal : goal.returns-clause-refusal
returns-clause-refusal c s e d why call = refuses_so s e d call why
