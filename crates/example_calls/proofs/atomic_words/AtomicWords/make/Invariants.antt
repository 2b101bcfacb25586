use Rattle.std.proofs.Common.{◌≡◌, length}
use Rattle.example_calls.proofs.atomic_words.AtomicWords.make.Given as goal

-- as many words are made as were seen
abbrev pub invariant-loop-word : goal.invariant-loop-word
invariant-loop-word l = length l.words.items ≡ l.word-index
