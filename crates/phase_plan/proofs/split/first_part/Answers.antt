use Rattle.std.proofs.Common.{◌≡◌, ◌∙◌, sym, ap, arith, false, subst, length}
use Rattle.std.specs.Prelude.{All}
use Rattle.std.proofs.lemmas.List.{take_all}
use Rattle.std.proofs.lemmas.List.Elements.{All-more}
use Rattle.std.proofs.lemmas.List.Splits.{slice_split_none}
use Rattle.script_lines.specs.Parts.{ends_part}
use Rattle.phase_plan.proofs.Cutting.{split_here}
use Rattle.phase_plan.proofs.split.first_part.Goals as goal

pub returns-then-is_phase-clause-parts : goal.returns-then-is_phase-clause-parts
returns-then-is_phase-clause-parts c = split_here c.args.lines.now c.loop-i.i c.index-lines-i.result c.loop-i-test.true c.index-lines-i.is (sym c.is_phase.ensures ∙ c.if-is_phase.true) c.loop-i.invariant

pub loop-i-preserved : goal.loop-i-preserved
loop-i-preserved c =
    All-more (λ x. ends_part x ≡ false) c.args.lines.now c.loop-i.i c.index-lines-i.result c.loop-i-test.true c.loop-i.invariant
    (ap ends_part (sym c.index-lines-i.is) ∙ sym c.is_phase.ensures ∙ c.if-is_phase.false)

pub returns-clause-parts : goal.returns-clause-parts
returns-clause-parts c =
    slice_split_none ends_part c.args.lines.now (subst (All (λ x. ends_part x ≡ false)) (take_all c.loop-i.i c.args.lines.now (omega (arith, c.loop-i-test.false))) c.loop-i.invariant)

pub returns-clause-front : goal.returns-clause-front
returns-clause-front c = (length c.args.lines.now, sym (take_all (length c.args.lines.now) c.args.lines.now (omega arith)))
