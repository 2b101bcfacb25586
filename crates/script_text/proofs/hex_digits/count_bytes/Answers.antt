use Rattle.std.proofs.Common.{sym}
use Rattle.script_text.proofs.HexNumbers.{length-bytes_of}
use Rattle.script_text.proofs.hex_digits.count_bytes.Goals as goal

pub returns-clause-count : goal.returns-clause-count
returns-clause-count c = sym (length-bytes_of c.args.word.now)
