use Rattle.std.proofs.Common.{◌∙◌, cond, None, sym, ap}
use Rattle.std.proofs.lemmas.Cmp.{nat_list_cmp_total}
use Rattle.kvp_pool.specs.Pools.{value_in}
use Rattle.kvp_pool.proofs.KeyLaws.{not_tied}
use Rattle.kvp_pool.proofs.MapLaws.{lookup_gone}
use Rattle.kvp_pool.proofs.laws.delete_leaves_others.Goals as goal

pub returns : goal.returns
returns c key other pool map n = lookup_gone nat_list_cmp_total pool key other map.rising ∙ ap (λ b. cond b None (value_in other pool)) (not_tied key other (λ e. n (sym e)))
