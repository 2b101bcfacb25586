use Rattle.kvp_ic.specs.Machine.{pool_of}
use Rattle.kvp_ic.proofs.PoolLaws.{refused}
use Rattle.kvp_ic.proofs.laws.refused_leaves_all.Goals as goal

pub returns : goal.returns
returns c pools q n = refused pools (pool_of q) q n
