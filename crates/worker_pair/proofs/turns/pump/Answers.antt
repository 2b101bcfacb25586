use Rattle.io_edge.specs.declared.side.Side.TheVariants.{Guest, Host}
use Rattle.worker_pair.proofs.Roles.{left_at_side}
use Rattle.worker_pair.proofs.turns.pump.Goals as goal

pub guest_done-requires : goal.guest_done-requires
guest_done-requires g c = left_at_side Guest c.into_worker.result c.run_both-guest.result.0 c.into_worker.ensures.side c.run_both-guest.ensures.guest

pub host_done-requires : goal.host_done-requires
host_done-requires g c = left_at_side Host c.into_worker-2.result c.run_both-guest.result.1 c.into_worker-2.ensures.side c.run_both-guest.ensures.host
