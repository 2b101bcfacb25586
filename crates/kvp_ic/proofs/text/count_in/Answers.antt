use Rattle.std.proofs.Common.{arith}
use Rattle.kvp_ic.specs.Texts.{size_at}
use Rattle.kvp_ic.proofs.TextLaws.{sized}
use Rattle.kvp_ic.proofs.text.count_in.Goals as goal

pub returns-clause-least : goal.returns-clause-least
returns-clause-least g c =
    let s = sized _ _ (size_at c.args.place c.args.bytes.now) c.requires.size in
    omega (arith, s.1, c.size_in.ensures.value)

pub returns-clause-most : goal.returns-clause-most
returns-clause-most g c =
    let s = sized _ _ (size_at c.args.place c.args.bytes.now) c.requires.size in
    omega (arith, s.2, c.size_in.ensures.value)
