use Rattle.std.proofs.Common.{arith}
use Rattle.kvp_ic.proofs.TextLaws.{two_bytes}
use Rattle.kvp_ic.proofs.text.unit_at.Goals as goal

pub returns : goal.returns
returns c =
    let is = two_bytes c.args.at c.args.bytes.now (omega arith) in
    omega (arith, is, c.from.ensures, c.from-2.ensures)
