use Rattle.std.proofs.Common.{length, ap, arith}
use Rattle.ring_core.proofs.CutLaws.{length-cut}
use Rattle.ring_core.proofs.rows.Rows.get.Goals as goal

pub returns-then-i-len : goal.returns-then-i-len
returns-then-i-len c = let p = c.self.inside in omega (arith, c.if-i-len.true, c.len.ensures, p.ends.ok.0, length-cut 0 p.ends.items p.words.items, ap (λ h. length h.list) c.self.view_is)
