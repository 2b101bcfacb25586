use Rattle.std.proofs.Common.{◌∙◌, cond, None, ap}
use Rattle.std.specs.Ordering.{is_eq}
use Rattle.std.proofs.lemmas.Cmp.{nat_list_cmp_total, tied_itself}
use Rattle.kvp_pool.specs.Pools.{value_in}
use Rattle.kvp_pool.proofs.MapLaws.{lookup_gone}
use Rattle.kvp_pool.proofs.laws.deleted_key_has_none.Goals as goal

pub returns : goal.returns
returns c key pool map = lookup_gone nat_list_cmp_total pool key key map.rising ∙ ap (λ r. cond (is_eq r) None (value_in key pool)) (tied_itself nat_list_cmp_total key)
