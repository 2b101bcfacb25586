use Rattle.ring_call_plan_laws.proofs.Wholes.{all_inside, after_sound}
use Rattle.ring_call_plan_laws.proofs.laws.plans_stay_inside.Goals as goal

pub returns-clause-inside : goal.returns-clause-inside
returns-clause-inside c = all_inside

pub returns-clause-sound : goal.returns-clause-sound
returns-clause-sound c = after_sound
