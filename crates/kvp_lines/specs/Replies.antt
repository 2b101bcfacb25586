-- How a key-value service's reply is written in an outcome.
use Rattle.std.specs.Prelude.{ℕ, ◌&&◌, List, [], ◌++◌, Option, Some, None, if◌then◌else◌, codes, map, nat_le}
use Rattle.kvp_ic.specs.declared.message.KvpReply.{KvpReply}
use Rattle.script_text.specs.Hex.{hex_8}

-- a unit of a text as a byte: ? where no word of a line has it
abbrev pub unit_text : ℕ → ℕ
unit_text unit = if nat_le 0x21 unit && nat_le unit 0x7E then unit else 63

-- a word and a text behind it, where there is one
abbrev pub part_text : List ℕ → Option (List ℕ) → List ℕ
part_text word None = []
part_text word (Some units) = word ++ map unit_text units

-- status 0xSTATUS, and behind it key KEY and value VALUE, where they came
abbrev pub pair_text : KvpReply → List ℕ
pair_text reply = (codes "status 0x" ++ hex_8 reply.status) ++ (part_text (codes " key ") reply.key ++ part_text (codes " value ") reply.value)
