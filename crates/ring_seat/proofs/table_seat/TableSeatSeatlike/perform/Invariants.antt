use Rattle.ring_seat.specs.Seats.{told_in}
use Rattle.ring_seat.proofs.table_seat.TableSeatSeatlike.perform.Given as goal

abbrev pub ghosts-perform_as : goal.ghosts-perform_as
ghosts-perform_as a = record { base = record { told = told_in a.seat.now.me.0; machine = a.core.now.machine; call = a.core.now.pages.call; packet = a.packet.now } }
