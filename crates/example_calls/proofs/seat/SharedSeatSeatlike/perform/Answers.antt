use Rattle.std.proofs.Common.{◌∙◌, sym, subst, refl, ℕ, Option}
use Rattle.ring_machine.specs.Inside.{IsOpOf, IsInside}
use Rattle.ring_machine.specs.declared.place.Op.{Op as OneOp}
use Rattle.ring_machine.proofs.Bounds.{inside_at}
use Rattle.ring_core.proofs.Performed.{ringing}
use Rattle.example_calls.proofs.seat.SharedSeatSeatlike.perform.Goals as goal

-- the step is one on a place of the channel
pub make-requires : goal.make-requires
make-requires g c =
    let m = c.args.core.now.machine in
    let busy = ringing c.args.core.now.pages m.stage c.args.core.now.fit c.requires.pages c.requires.busy in
    let named = sym (c.next.ensures.rings busy) ∙ c.in-Some.is in
    subst (λ (n : ℕ). IsOpOf n 0 c.in-Some.op) c.requires.fits
    (subst (λ (o : Option OneOp). IsInside m.cells 0 o) named (inside_at m 0 c.args.packet.now c.args.core.now.sound m.stage refl))
