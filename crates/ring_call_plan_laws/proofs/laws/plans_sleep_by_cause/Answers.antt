use Rattle.ring_call_plan_laws.proofs.Channels.{sleeps_so}
use Rattle.ring_call_plan_laws.proofs.laws.plans_sleep_by_cause.Goals as goal

pub returns : goal.returns
returns c = sleeps_so
