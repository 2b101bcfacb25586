use Rattle.control_model.specs.Messages.{farewell, farewell_taken}
use Rattle.control_model.specs.Said.{said_by_guest, said_by_host}
use Rattle.control_path.proofs.path.ControlPath.make.Given as goal

abbrev pub ghosts-join-N-Named : goal.ghosts-join-N-Named
ghosts-join-N-Named a = record { named = said_by_guest a.guest.plan; last = farewell_taken }

abbrev pub ghosts-join-M-Named : goal.ghosts-join-M-Named
ghosts-join-M-Named a = record { named = said_by_host a.guest.plan; last = farewell }
