use Rattle.std.proofs.lemmas.Cmp.{nat_list_cmp_total}
use Rattle.kvp_pool.proofs.KeyLaws.{not_tied}
use Rattle.kvp_pool.proofs.MapLaws.{lookup_set_other}
use Rattle.kvp_pool.proofs.laws.set_leaves_others.Goals as goal

pub returns : goal.returns
returns c key value other pool n = lookup_set_other nat_list_cmp_total pool key other value (not_tied other key n)
