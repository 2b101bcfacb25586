use Rattle.ring_call_plan.proofs.PlanLaws.{feeds_state}
use Rattle.ring_call_plan.proofs.laws.feeds_the_state.Goals as goal

pub returns : goal.returns
returns c = feeds_state
