use Rattle.ring_call_plan.proofs.PlanLaws.{formed, idle}
use Rattle.ring_call_plan.proofs.laws.shows_in_form.Goals as goal

pub returns : goal.returns
returns c = record { form = formed; idle = idle }
