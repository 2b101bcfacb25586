use Rattle.kvp_format.proofs.PairLaws.{pair_reply_fits}
use Rattle.kvp_format.proofs.laws.replies_fit.Goals as goal

pub returns : goal.returns
returns c request reply may = pair_reply_fits request reply may
