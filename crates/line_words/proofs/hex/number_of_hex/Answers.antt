use Rattle.std.proofs.Common.{arith}
use Rattle.line_words.proofs.HexNumbers.{hex_fits, hex_step}
use Rattle.line_words.proofs.hex.number_of_hex.Goals as goal

pub overflow_mul-n : goal.overflow_mul-n
overflow_mul-n c = omega (arith, hex_step c.loop-rest.rest.now c.loop-rest.n _ c.in-len1-up.len_at_least c.loop-rest.invariant.number (hex_fits c.args.digits.now c.requires.count c.requires.digits))

pub overflow_add-n : goal.overflow_add-n
overflow_add-n c =
    omega (arith, c.from.ensures, c.hex_value.ensures.value, hex_step c.loop-rest.rest.now c.loop-rest.n _ c.in-len1-up.len_at_least c.loop-rest.invariant.number (hex_fits c.args.digits.now c.requires.count c.requires.digits))
