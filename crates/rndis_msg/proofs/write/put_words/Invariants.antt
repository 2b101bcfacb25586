use Rattle.std.proofs.Common.{◌≡◌, ◌+◌, ◌*◌, [], take, drop, length}
use Rattle.wire_table.specs.Rows.{spelled_after}
use Rattle.rndis_msg.specs.Grammar.{rows_of}
use Rattle.rndis_msg.proofs.write.put_words.Given as goal

abbrev pub invariant-loop-word : goal.invariant-loop-word
invariant-loop-word l = record {
  front : spelled_after (take l.at l.out) (rows_of (drop l.word-index l.words)) ≡ spelled_after [] (rows_of l.words);
  place : l.at + 4 * length (drop l.word-index l.words) ≡ 4 * length l.words;
}
