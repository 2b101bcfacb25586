-- What the seat at a table tells keeps to the rule of the pages.
use Rattle.std.proofs.Common.{◌≡◌, Some, subst}
use Rattle.ring_core.specs.declared.told.Told.{Told}
use Rattle.ring_seat.specs.Lawful.{Lawfully}
use Rattle.ring_seat.specs.Seats.{told_in}
use Rattle.ring_seat.specs.declared.table_seat.TableSeat.{TableSeat}

pub table_lawful : (s : TableSeat) (u : Told) → Some (told_in s.seat.me.0) ≡ Some u → Lawfully u.state
table_lawful s u e = let same : told_in s.seat.me.0 ≡ u = cc in subst (λ (x : Told). Lawfully x.state) same s.lawful
