use Rattle.ring_call_plan_laws.proofs.Channels.{keeps_rule, ends_so}
use Rattle.ring_call_plan_laws.proofs.laws.plans_keep_the_channel.Goals as goal

pub returns-clause-rule : goal.returns-clause-rule
returns-clause-rule c n x w e d turns rest rule shows rests used heard = keeps_rule n x w e d rule shows rests used heard turns rest

pub returns-clause-over : goal.returns-clause-over
returns-clause-over c n x w e d turns rule shows rests used heard = ends_so n x w e d rule shows rests used heard turns
