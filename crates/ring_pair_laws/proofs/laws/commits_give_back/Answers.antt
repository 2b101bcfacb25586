use Rattle.ring_pair_laws.proofs.Calling.{after_commit}
use Rattle.ring_pair_laws.proofs.laws.commits_give_back.Goals as goal

pub returns : goal.returns
returns c = after_commit
