use Rattle.hostile_memory.proofs.open_seat.OpenSeatSeatlike.perform.Given as goal

abbrev pub ghosts-perform_as : goal.ghosts-perform_as
ghosts-perform_as a = record { base = record { machine = a.core.now.machine; call = a.core.now.pages.call; packet = a.packet.now } }
