use Rattle.std.proofs.Common.{◌≡◌, sym, subst, None, arith}
use Rattle.control_model.specs.Plan.{BusPlan, opening_at, IsOpening}
use Rattle.control_model.proofs.PlanLaws.{all_of, none_past}
use Rattle.control_model.proofs.plan.ControlPlan.opening_at.Goals as goal

pub returns-then-place-len-clause-fits : goal.returns-then-place-len-clause-fits
returns-then-place-len-clause-fits c =
    all_of (λ o. IsOpening o) (λ phase. phase.items) c.self.inside.phases.items c.args.phase c.args.place c.index-openings.result.now c.index.result.now (omega (arith, c.if-phase-len.true, c.len.ensures, c.self.inside.phases.ok)) c.index-openings.ensures (omega (arith, c.if-place-len.true, c.len-then-phase-len.ensures)) c.index.ensures c.self.invariant.fits

pub returns-else-place-len-clause-opening : goal.returns-else-place-len-clause-opening
returns-else-place-len-clause-opening c =
    let past = none_past (λ phase. phase.items) c.self.inside.phases.items c.args.phase c.args.place c.index-openings.result.now (omega (arith, c.if-phase-len.true, c.len.ensures)) c.index-openings.ensures (omega (arith, c.if-place-len.false, c.len-then-phase-len.ensures)) in
    let P : BusPlan → Type 0 = λ p. None ≡ opening_at p c.args.phase c.args.place in
    subst P c.self.view_is (sym past)
