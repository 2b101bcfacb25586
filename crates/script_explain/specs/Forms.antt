-- The forms and ranges of words, as rows have them.
use Rattle.std.specs.Prelude.{ℕ, Bool, true, false, not, ◌&&◌, ◌||◌, is_some, nat_le, List, length, codes, bytes_eq, if◌then◌else◌}
use Rattle.std.specs.Option.{option_map_or}
use Rattle.script_text.specs.Words.{is_word}
use Rattle.script_text.specs.Forms.{is_name, is_decimal, number_of, in_u64, is_byte, is_version, version_of, are_bytes, bytes_of, is_address, is_oid}
use Rattle.kvp_lines.specs.Forms as pair
use Rattle.script_explain.specs.declared.form.Form.{Form}
use Rattle.script_explain.specs.declared.form.Form.TheVariants.{End, Name, Kind, Number, Version, Byte, Bytes, Oid, Address, After, Held, OfPair}

-- a word has the form
abbrev pub takes : Form → List ℕ → Bool
takes End word = false
takes Name word = is_name word
takes Kind word = bytes_eq word (codes "hb") || (bytes_eq word (codes "shutdown") || (bytes_eq word (codes "disk") || (bytes_eq word (codes "net") || bytes_eq word (codes "kvp"))))
takes (Number low high) word = is_decimal word
takes Version word = is_version word
takes Byte word = is_byte word
takes (Bytes least most) word = are_bytes word
takes Oid word = is_oid word
takes Address word = is_address word
takes After word = bytes_eq word (codes "after")
takes Held word = bytes_eq word (codes "held")
takes (OfPair form) word = pair.takes form word

-- nothing may stand there
abbrev pub may_lack : Form → Bool
may_lack End = true
may_lack Held = true
may_lack (OfPair form) = pair.may_lack form
may_lack _ = false

-- a word of the form is in its range
abbrev pub admits : Form → List ℕ → Bool
admits (Number low high) word = is_decimal word && option_map_or (λ n. nat_le low n && nat_le n high) (in_u64 (number_of word)) false
admits Version word = is_version word && is_some (version_of word)
admits (Bytes least most) word = are_bytes word && (nat_le least (length (bytes_of word)) && nat_le (length (bytes_of word)) most)
admits (OfPair form) word = pair.admits form word
admits _ word = true

-- what stands there, a word or nothing, has the form
abbrev pub fits : Form → List ℕ → Bool
fits form word = if is_word word then takes form word else may_lack form

-- a word stands there that is out of its range
abbrev pub is_far : Form → List ℕ → Bool
is_far form word = is_word word && not (admits form word)
