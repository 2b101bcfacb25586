use Rattle.std.proofs.Common.{rules}
use Rattle.std.proofs.lemmas.Fn.{always_returns_same}
use Rattle.kvp_pool.specs.Pools.{key_order}
use Rattle.kvp_pool.specs.Kept.{pair_at}
use Rattle.kvp_pool.proofs.KeptLaws.{found_from_search}
use Rattle.kvp_pool.proofs.search.find.Goals as goal

pub returns : goal.returns
returns c =
    found_from_search c.args.pairs.now c.args.order.now c.args.key.now c.binary_search_by.result c.requires c.binary_search_by.ensures.bound
    (c.binary_search_by.ensures.position (λ p. key_order (pair_at c.args.pairs.now p).0 c.args.key.now) (always_returns_same _ _ _ (λ a r q k. (search rules, search rules))))
