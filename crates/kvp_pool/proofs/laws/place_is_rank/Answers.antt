use Rattle.std.proofs.lemmas.Cmp.{nat_list_cmp_total}
use Rattle.kvp_pool.proofs.MapLaws.{rank}
use Rattle.kvp_pool.proofs.laws.place_is_rank.Goals as goal

pub returns : goal.returns
returns c pool i pair map at = rank nat_list_cmp_total pool i pair map.rising at
