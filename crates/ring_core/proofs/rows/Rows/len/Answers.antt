use Rattle.std.proofs.Common.{length, ap, arith}
use Rattle.ring_core.proofs.CutLaws.{length-cut}
use Rattle.ring_core.proofs.rows.Rows.len.Goals as goal

pub returns : goal.returns
returns c = let p = c.self.inside in omega (arith, c.len.ensures, p.ends.ok.0, length-cut 0 p.ends.items p.words.items, ap (λ h. length h.list) c.self.view_is)
