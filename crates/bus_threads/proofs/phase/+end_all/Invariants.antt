use Rattle.arrayvec.specs.ArrayVec.{array_vec_len}
use Rattle.bus_threads.proofs.phase.+end_all.Given as goal

abbrev pub decreases-end_all : goal.decreases-end_all
decreases-end_all g l = array_vec_len l.begun.now
