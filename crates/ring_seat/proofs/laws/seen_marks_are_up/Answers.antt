use Rattle.ring_seat.proofs.Reading as reading
use Rattle.ring_seat.proofs.laws.seen_marks_are_up.Goals as goal

pub returns : goal.returns
returns c = reading.seen_up
