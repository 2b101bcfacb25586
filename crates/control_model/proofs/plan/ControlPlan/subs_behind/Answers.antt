use Rattle.std.proofs.Common.{length, ap, arith}
use Rattle.control_model.proofs.SubLaws.{next_few}
use Rattle.control_model.proofs.plan.ControlPlan.subs_behind.Goals as goal

pub returns-in-Some-PhaseStart-clause-few : goal.returns-in-Some-PhaseStart-clause-few
returns-in-Some-PhaseStart-clause-few c = let e = ap length c.subs_next.ensures in let l = next_few c.phase.result.now c.args.place in omega (arith, e, l, c.phase.ensures.few)
