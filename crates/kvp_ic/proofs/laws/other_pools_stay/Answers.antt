use Rattle.std.proofs.Common.{[], get_or}
use Rattle.kvp_ic.specs.Machine.{pool_of, pool_after}
use Rattle.kvp_ic.proofs.PoolLaws.{get_set_other}
use Rattle.kvp_ic.proofs.laws.other_pools_stay.Goals as goal

pub returns : goal.returns
returns c pools q i n = get_set_other pools (pool_of q) i (pool_after (get_or pools (pool_of q) []) q) n
