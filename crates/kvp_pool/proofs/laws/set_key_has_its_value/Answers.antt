use Rattle.std.proofs.lemmas.Cmp.{nat_list_cmp_total}
use Rattle.kvp_pool.proofs.MapLaws.{lookup_set}
use Rattle.kvp_pool.proofs.laws.set_key_has_its_value.Goals as goal

pub returns : goal.returns
returns c key value pool = lookup_set nat_list_cmp_total pool key value
