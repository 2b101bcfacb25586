use Rattle.std.proofs.Common.{◌∙◌, refl, ap, subst}
use Rattle.ring_seat.specs.Lawful.{Lawfully}
use Rattle.ring_seat.specs.Seats.{told_in, state_in}
use Rattle.ring_seat.specs.declared.table_seat.TableSeat.{TableSeat}
use Rattle.ring_seat.proofs.table_seat.lawful.Goals as goal

pub returns : goal.returns
returns c =
    let seat = c.seat-seat in
    subst Lawfully (ap (λ (t : TableSeat). state_in t.seat.me.0) seat.ensures.value ∙ c.items_fit.ensures.told (told_in c.args.end.now.seat.seat.me.0) refl) seat.result.now.lawful
