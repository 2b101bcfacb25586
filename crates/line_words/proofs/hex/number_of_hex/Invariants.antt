use Rattle.std.proofs.Common.{◌≡◌, length, true}
use Rattle.std.specs.List.{list_all}
use Rattle.script_text.specs.Forms.{is_hex, hex_after}
use Rattle.line_words.proofs.hex.number_of_hex.Given as goal

abbrev pub invariant-loop-rest : goal.invariant-loop-rest
invariant-loop-rest l = record {
  number : hex_after l.n l.rest ≡ hex_after 0 l.fn.digits;
  digits : list_all is_hex l.rest ≡ true;
}

abbrev pub decreases-loop-rest : goal.decreases-loop-rest
decreases-loop-rest l = length l.rest
