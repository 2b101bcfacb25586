use Rattle.std.proofs.Common.{arith}
use Rattle.std.proofs.Math.Nat.{one-le-pow}
use Rattle.util_ic.proofs.read.field.Goals as goal

pub returns-else-at-width-clause-fits : goal.returns-else-at-width-clause-fits
returns-else-at-width-clause-fits c = omega (arith, one-le-pow c.args.width 256 (omega arith))
