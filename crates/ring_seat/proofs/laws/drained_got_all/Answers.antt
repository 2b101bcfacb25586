use Rattle.ring_seat.proofs.Reading as reading
use Rattle.ring_seat.proofs.laws.drained_got_all.Goals as goal

pub returns : goal.returns
returns c = reading.drained_all
