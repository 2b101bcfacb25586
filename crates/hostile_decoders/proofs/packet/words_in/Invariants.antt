use Rattle.std.proofs.Common.{◌≡◌, length, map}
use Rattle.std.specs.List.{range_with_len}
use Rattle.vm_page.specs.Words.{word_at}
use Rattle.hostile_decoders.proofs.packet.words_in.Given as goal

abbrev pub invariant-loop-i : goal.invariant-loop-i
invariant-loop-i l = record {
  items : l.words.items ≡ map (word_at l.fn.bytes) (range_with_len 0 l.i);
  len : length l.words.items ≡ l.i;
}
