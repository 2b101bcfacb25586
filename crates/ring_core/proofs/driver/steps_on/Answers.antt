use Rattle.std.proofs.Common.{sym, ◌∙◌}
use Rattle.ring_machine.proofs.Sound.{fed_nearer}
use Rattle.ring_core.proofs.Driving.{can_step, goes_more, goes_step, may_more}
use Rattle.ring_core.proofs.driver.steps_on.Goals as goal

pub step_apart-requires : goal.step_apart-requires
step_apart-requires g c =
    let i = c.loop-seat.invariant in
    can_step (may_more c.requires.may i.goes) (i.goes.cells ∙ (c.requires.fits ∙ sym i.goes.size)) (sym c.is_busy.ensures ∙ c.loop-seat-test.true)

pub loop-seat-smaller : goal.loop-seat-smaller
loop-seat-smaller g c = rw c.step_apart.ensures.machine (fed_nearer c.loop-seat.core.machine c.step_apart.result c.loop-seat.core.sound (sym c.is_busy.ensures ∙ c.loop-seat-test.true))

pub loop-seat-preserved : goal.loop-seat-preserved
loop-seat-preserved g c = record {
  goes = goes_more g.met.S.Seatlike.same_trans c.loop-seat.invariant.goes (goes_step (sym c.is_busy.ensures ∙ c.loop-seat-test.true) c.step_apart.ensures);
  pages = c.step_apart.ensures.pages ∙ c.loop-seat.invariant.pages;
}
