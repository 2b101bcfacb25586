use Rattle.std.proofs.Common.{arith}
use Rattle.std.specs.Arc.{arc_value}
use Rattle.ring_seat.proofs.Places.{signal_small}
use Rattle.ring_seat.specs.Seats.{state_in}
use Rattle.ring_seat.proofs.table_seat.TableSeatParks.park.Goals as goal

pub park-requires : goal.park-requires
park-requires g c =
    let it = c.args.self.now in
    let small = signal_small (arc_value it.board).shared.key.cells (state_in it.seat.me.0).machine.side in
    rw c.deref.ensures (omega (arith, it.at, it.sized, small))
