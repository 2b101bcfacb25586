use Rattle.std.proofs.Common.{◌≡◌, ◌++◌, drop}
use Rattle.std.specs.List.{flat_map}
use Rattle.script_text.specs.Hex.{hex_2}
use Rattle.packet_text.proofs.packet.push_word.Given as goal

-- what is written, and the bytes that are left
abbrev pub invariant-loop-byte : goal.invariant-loop-byte
invariant-loop-byte l = l.text.items ++ flat_map (λ b. l.before ++ hex_2 b) (drop l.byte-index l.byte-items) ≡ l.initial.text.items ++ flat_map (λ b. l.before ++ hex_2 b) l.byte-items
