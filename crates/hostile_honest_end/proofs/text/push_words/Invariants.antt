use Rattle.std.proofs.Common.{◌≡◌, ◌≤◌, ◌+◌, ◌*◌, ◌++◌, length, vec_len}
use Rattle.hostile_honest_end.specs.Text.{words_text}
use Rattle.hostile_honest_end.proofs.text.push_words.Given as goal

abbrev pub invariant-loop-rest : goal.invariant-loop-rest
invariant-loop-rest l = record {
  said : l.text.items ++ words_text l.rest ≡ l.fn.text.items ++ words_text l.fn.words;
  short : vec_len l.text + 17 * length l.rest ≤ vec_len l.fn.text + 17 * length l.fn.words;
}

abbrev pub decreases-loop-rest : goal.decreases-loop-rest
decreases-loop-rest l = length l.rest
