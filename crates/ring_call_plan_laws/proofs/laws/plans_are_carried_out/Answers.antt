use Rattle.ring_call_plan_laws.proofs.Carried.{carried}
use Rattle.ring_call_plan_laws.proofs.laws.plans_are_carried_out.Goals as goal

pub returns : goal.returns
returns c = carried
