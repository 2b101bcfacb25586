use Rattle.std.proofs.Common.{length, Ok, Err}
use Rattle.script_text.proofs.HexNumbers.{written}
use Rattle.script_text.proofs.hex_digits.put_bytes.Goals as goal

pub unreachable-requires : goal.unreachable-requires
unreachable-requires c =
    c.in_default.not-Ok tt (written (Ok tt) Err c.args.word.now c.decode_to_slice.new.out (length c.args.out.now) c.decode_to_slice.result c.requires.places c.requires.digits c.decode_to_slice.ensures.value).0

pub returns : goal.returns
returns c =
    (written (Ok tt) Err c.args.word.now c.decode_to_slice.new.out (length c.args.out.now) c.decode_to_slice.result c.requires.places c.requires.digits c.decode_to_slice.ensures.value).1
