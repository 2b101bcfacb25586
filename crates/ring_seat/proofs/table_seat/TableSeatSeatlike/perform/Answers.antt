use Rattle.std.proofs.Common.{◌≡◌, ◌∙◌, Some, refl, sym, ap, subst}
use Rattle.std.specs.Arc.{arc_value}
use Rattle.atomic_table.specs.Table.{Me}
use Rattle.ring_core.specs.declared.told.Told.{Told}
use Rattle.ring_machine.specs.Places.{signal_of}
use Rattle.ring_seat.specs.Lawful.{Lawfully}
use Rattle.ring_seat.specs.declared.view.View.{View}
use Rattle.ring_seat.specs.Seats.{Making, made, told_in, state_in, is_one}
use Rattle.ring_seat.proofs.Allowed.{made_stays}
use Rattle.ring_seat.proofs.table_seat.TableSeatSeatlike.perform.Goals as goal

pub perform_as-requires-clause-pages : goal.perform_as-requires-clause-pages
perform_as-requires-clause-pages c = rw c.deref.ensures (λ e. c.requires.pages e ∙ sym c.args.self.now.pages)

pub perform_as-requires-clause-goes_on : goal.perform_as-requires-clause-goes_on
perform_as-requires-clause-goes_on c = c.requires.goes_on _ refl

pub returns-clause-tells : goal.returns-clause-tells
returns-clause-tells c = λ u e.
    let k = c.args.core.now in
    let same : told_in c.args.self.now.seat.me.0 ≡ u = cc in (
      ap (λ (z : Me (Unit {0}) View). Some (told_in z.0)) c.perform_as.ensures.tells.0 ∙ ap (λ (x : Told). Some (made record { told = x; machine = k.machine; call = k.pages.call; packet = c.args.packet.now } c.perform_as.result)) same,
      c.perform_as.ensures.tells.1,
    )

pub returns-clause-same : goal.returns-clause-same
returns-clause-same c =
    let it = c.args.self.now in
    let k : Making = record { told = told_in it.seat.me.0; machine = c.args.core.now.machine; call = c.args.core.now.pages.call; packet = c.args.packet.now } in
    (c.perform_as.ensures.seated.0, ap (λ (z : Me (Unit {0}) View). (state_in z.0).pages.count) c.perform_as.ensures.tells.0 ∙ (made_stays k c.perform_as.result (c.requires.goes_on (told_in it.seat.me.0) refl) c.requires.fits).count)

pub invariant_of-self : goal.invariant_of-self
invariant_of-self c =
    let it = c.args.self.now in
    let me = c.perform_as.ensures.tells.0 in
    let v = c.perform_as.result in
    let k : Making = record { told = told_in it.seat.me.0; machine = c.args.core.now.machine; call = c.args.core.now.pages.call; packet = c.args.packet.now } in
    let same = made_stays k v (c.requires.goes_on (told_in it.seat.me.0) refl) c.requires.fits in
    let side : (state_in c.perform_as.new.seat.me.0).machine.side ≡ (state_in it.seat.me.0).machine.side = ap (λ (z : Me (Unit {0}) View). (state_in z.0).machine.side) me ∙ same.side in
    record {
      seated = c.perform_as.ensures.seated.0 ∙ it.seated;
      sized = it.sized;
      cells = it.cells ∙ (sym same.cells ∙ sym (ap (λ (z : Me (Unit {0}) View). (state_in z.0).machine.cells) me));
      pages = it.pages ∙ (sym same.count ∙ sym (ap (λ (z : Me (Unit {0}) View). (state_in z.0).pages.count) me));
      one = ap (λ (z : Me (Unit {0}) View). is_one z.0) me;
      empty = ap (λ (z : Me (Unit {0}) View). z.1) me;
      at = it.at ∙ ap (signal_of (arc_value it.board).shared.key.cells) (sym side);
      lawful = subst (λ (z : Me (Unit {0}) View). Lawfully (state_in z.0)) (sym me) c.perform_as.ensures.tells.2;
    }
