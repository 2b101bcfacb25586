use Rattle.ring_pair_laws.proofs.Pairing.{call_on, stays}
use Rattle.ring_pair_laws.proofs.laws.calls_keep_the_pair.Goals as goal

pub returns-clause-pair : goal.returns-clause-pair
returns-clause-pair c = λ s x ok m q new begins ran leaves. (call_on s x ok m q new begins ran leaves.stage).pair

pub returns-clause-other : goal.returns-clause-other
returns-clause-other c = stays
