use Rattle.arrayvec.specs.ArrayVec.{array_vec_len}
use Rattle.bus_threads.proofs.phase.+start_guests.Given as goal

abbrev pub decreases-start_guests : goal.decreases-start_guests
decreases-start_guests g l = array_vec_len l.hosted.now
