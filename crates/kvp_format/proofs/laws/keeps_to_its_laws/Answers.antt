use Rattle.kvp_format.proofs.PairLaws.{pair_kept}
use Rattle.kvp_format.proofs.laws.keeps_to_its_laws.Goals as goal

pub returns : goal.returns
returns c = pair_kept
