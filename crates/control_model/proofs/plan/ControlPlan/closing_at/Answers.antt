use Rattle.std.proofs.Common.{◌≤◌, ◌∙◌, length, sym, ap, subst, arith}
use Rattle.control_model.specs.Plan.{phase_of, opening_at, Seated}
use Rattle.control_model.specs.Places.{closing_place}
use Rattle.control_model.proofs.SubLaws.{closing_law, closing_none}
use Rattle.control_model.proofs.plan.ControlPlan.closing_at.Goals as goal

pub returns-then-place-openings-clause-opening : goal.returns-then-place-openings-clause-opening
returns-then-place-openings-clause-opening c =
    closing_none (phase_of c.args.self.now c.args.phase) c.args.place (subst (λ os. length os ≤ c.args.place) c.phase-openings.ensures.openings (omega (arith, c.if-place-openings.true)))

pub returns-clause-opening : goal.returns-clause-opening
returns-clause-opening c =
    c.opening_at.ensures.opening ∙ ap (opening_at c.args.self.now c.args.phase) (c.closing_place.ensures ∙ ap (λ os. closing_place os c.args.place) c.phase-openings.ensures.openings)
    ∙ sym (closing_law (phase_of c.args.self.now c.args.phase) c.args.place (subst (Seated 0) c.phase-openings.ensures.openings c.phase-openings.ensures.seated))
