use Rattle.std.proofs.Common.{ap, ◌∙◌}
use Rattle.std.specs.Int.{w32, from_be_bytes}
use Rattle.script_text.proofs.HexNumbers.{read_8}
use Rattle.script_text.proofs.hex_digits.hex_number.Goals as goal

pub returns : goal.returns
returns c = c.from_be_bytes.ensures ∙ (ap (from_be_bytes w32) c.decoded.ensures ∙ read_8 c.args.digits.now c.requires.count)
