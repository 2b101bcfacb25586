use Rattle.std.proofs.Common.{vec_len}
use Rattle.bus_threads.proofs.phase.+start_hosts.Given as goal

abbrev pub decreases-start_hosts : goal.decreases-start_hosts
decreases-start_hosts g l = vec_len l.pairs
