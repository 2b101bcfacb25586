use Rattle.std.proofs.Common.{◌≡◌, ◌++◌, drop}
use Rattle.std.specs.List.{flat_map}
use Rattle.packet_text.specs.Lines.{hex_word}
use Rattle.packet_text.proofs.packet.push_words.Given as goal

-- what is written, and the words that are left
abbrev pub invariant-loop-word : goal.invariant-loop-word
invariant-loop-word l = l.text.items ++ flat_map (hex_word l.before) (drop l.word-index l.words) ≡ l.initial.text.items ++ flat_map (hex_word l.before) l.words
