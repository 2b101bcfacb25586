use Rattle.std.proofs.Common.{◌≤◌, length, sym, subst, arith}
use Rattle.control_model.specs.Plan.{Seated}
use Rattle.control_model.proofs.PlanLaws.{one_of}
use Rattle.control_model.proofs.plan.ControlPlan.phase.Goals as goal

pub returns-then-phase-len-clause-few : goal.returns-then-phase-len-clause-few
returns-then-phase-len-clause-few c =
    subst (λ os. length os ≤ 16) (sym c.deref.ensures.value) (one_of (λ os. length os ≤ 16) (λ phase. phase.items) c.self.inside.phases.items c.args.phase c.index.result.now (omega (arith, c.if-phase-len.true, c.len.ensures, c.self.inside.phases.ok)) c.index.ensures c.self.invariant.small)

pub returns-then-phase-len-clause-seated : goal.returns-then-phase-len-clause-seated
returns-then-phase-len-clause-seated c =
    subst (Seated 0) (sym c.deref.ensures.value) (one_of (Seated 0) (λ phase. phase.items) c.self.inside.phases.items c.args.phase c.index.result.now (omega (arith, c.if-phase-len.true, c.len.ensures, c.self.inside.phases.ok)) c.index.ensures c.self.invariant.seated)
