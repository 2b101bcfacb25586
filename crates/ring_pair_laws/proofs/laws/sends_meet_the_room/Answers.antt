use Rattle.ring_pair_laws.proofs.Calling.{after_send}
use Rattle.ring_pair_laws.proofs.laws.sends_meet_the_room.Goals as goal

pub returns : goal.returns
returns c = after_send
