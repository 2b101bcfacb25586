use Rattle.std.proofs.Common.{◌∙◌}
use Rattle.page_table.specs.Table.{part_in}
use Rattle.ring_core.specs.Laying.{laid}
use Rattle.ring_core.proofs.ListLaws.{keeps_on}
use Rattle.ring_core.proofs.Laying.{laid_is}
use Rattle.ring_core.proofs.end.End.lay.Goals as goal

pub invariant_of-self : goal.invariant_of-self
invariant_of-self g c =
    let old = c.self.inside.lean.driven.state.pages in
    let p = c.args.p.now in
    let e = c.lay.ensures in
    keeps_on (laid old p c.args.words.now).copy c.self.invariant e.kept.0.sent e.kept.0.got (e.pages ∙ laid_is old (part_in old.owners p) c.args.words.now) e.kept.1 (g.met.S.Seatlike.same_pages _ _ e.same)
