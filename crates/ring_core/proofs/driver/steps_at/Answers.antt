use Rattle.std.proofs.Common.{◌≡◌, true, sym, ap, ◌∙◌, subst}
use Rattle.ring_machine.specs.declared.machine.Stage.{Stage}
use Rattle.ring_machine.specs.Steps.{call_at, fed, is_busy_at}
use Rattle.ring_machine.proofs.Sound.{fed_nearer}
use Rattle.ring_machine.specs.Loops.{Keeps}
use Rattle.ring_machine.proofs.Kept.{keeps_more, keeps_step}
use Rattle.ring_core.proofs.Driving.{can_step, goes_more, goes_step, may_more}
use Rattle.ring_core.proofs.driver.steps_at.Goals as goal

pub returns-clause-may : goal.returns-clause-may
returns-clause-may g c = may_more c.requires.may c.loop-at.invariant.goes

pub step-requires : goal.step-requires
step-requires g c =
    let i = c.loop-at.invariant in
    can_step (may_more c.requires.may i.goes) (i.goes.cells ∙ (c.requires.fits ∙ sym i.goes.size)) (ap is_busy_at (c.is_at.ensures.same c.loop-at-test.true) ∙ c.is_at.ensures.busy c.loop-at-test.true)

pub loop-at-smaller : goal.loop-at-smaller
loop-at-smaller g c =
    let busy : is_busy_at c.loop-at.core.machine.stage ≡ true = ap is_busy_at (c.is_at.ensures.same c.loop-at-test.true) ∙ c.is_at.ensures.busy c.loop-at-test.true in
    rw c.step.ensures.machine (fed_nearer c.loop-at.core.machine c.step.result c.loop-at.core.sound busy)

pub loop-at-preserved : goal.loop-at-preserved
loop-at-preserved g c =
    let i = c.loop-at.invariant in
    let m = c.loop-at.core.machine in
    let same = c.is_at.ensures.same c.loop-at-test.true in
    let busy : is_busy_at m.stage ≡ true = ap is_busy_at same ∙ c.is_at.ensures.busy c.loop-at-test.true in
    record {
      goes = goes_more g.met.S.Seatlike.same_trans i.goes (goes_step busy c.step.ensures);
      keeps = keeps_more _ _ m _ i.keeps (rw c.step.ensures.machine (subst (λ (st : Stage). Keeps (call_at st) m (fed m c.step.result)) same (keeps_step m c.step.result m.stage busy)));
      pages = c.step.ensures.pages ∙ i.pages;
    }
