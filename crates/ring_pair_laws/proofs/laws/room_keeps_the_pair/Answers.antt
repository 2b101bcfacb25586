use Rattle.ring_pair_laws.proofs.Pairing.{same_on}
use Rattle.ring_pair_laws.proofs.laws.room_keeps_the_pair.Goals as goal

pub returns : goal.returns
returns c = same_on
