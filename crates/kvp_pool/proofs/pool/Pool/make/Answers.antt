use Rattle.std.proofs.Common.{rules}
use Rattle.kvp_pool.proofs.KeptLaws.{kept_new}
use Rattle.kvp_pool.proofs.pool.Pool.make.Goals as goal

pub invariant_of-result : goal.invariant_of-result
invariant_of-result c = kept_new _ _ _ (search rules) (search rules) (search rules) (search rules)
