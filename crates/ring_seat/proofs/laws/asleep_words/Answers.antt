use Rattle.ring_seat.proofs.Reading as reading
use Rattle.ring_seat.proofs.laws.asleep_words.Goals as goal

pub returns-clause-words : goal.returns-clause-words
returns-clause-words c = reading.asleep_words

pub returns-clause-looks : goal.returns-clause-looks
returns-clause-looks c = reading.asleep_looks
