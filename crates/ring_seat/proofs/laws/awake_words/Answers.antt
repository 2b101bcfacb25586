use Rattle.ring_seat.proofs.Reading as reading
use Rattle.ring_seat.proofs.laws.awake_words.Goals as goal

pub returns : goal.returns
returns c = reading.awake_words
