use Rattle.std.proofs.Common.{◌≡◌, ◌+◌, [], take, drop}
use Rattle.wire_table.specs.Rows.{spelled_after, total}
use Rattle.vmbus_msg.specs.Grammar.{AllFit}
use Rattle.vmbus_msg.specs.Pieces.{word_kinds, word_rows}
use Rattle.vmbus_msg.proofs.write.put_words.Given as goal

abbrev pub invariant-loop-word : goal.invariant-loop-word
invariant-loop-word l = record {
  front : spelled_after (take l.at l.out) (word_rows (drop l.word-index l.words)) ≡ spelled_after [] (word_rows l.words);
  place : l.at + total (word_kinds (drop l.word-index l.words)) ≡ total (word_kinds l.words);
  fit : AllFit (word_kinds (drop l.word-index l.words)) (word_rows (drop l.word-index l.words)) → AllFit (word_kinds l.words) (word_rows l.words);
}
