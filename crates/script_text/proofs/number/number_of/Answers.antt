use Rattle.std.proofs.Common.{◌∙◌, ap, sym}
use Rattle.script_text.specs.Forms.{in_u64}
use Rattle.script_text.proofs.Numbers.{too_large}
use Rattle.script_text.proofs.number.number_of.Goals as goal

pub returns-then-n-digit : goal.returns-then-n-digit
returns-then-n-digit c = sym (ap in_u64 (sym c.loop-rest.invariant.rest) ∙ too_large c.loop-rest.rest.now c.loop-rest.n c.in-len1-up.len_at_least c.if-n-digit.true)
