use Rattle.ring_pair_laws.proofs.Calling.{after_take}
use Rattle.ring_pair_laws.proofs.laws.takes_give_the_first.Goals as goal

pub returns : goal.returns
returns c = after_take
