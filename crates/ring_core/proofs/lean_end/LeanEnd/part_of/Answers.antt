use Rattle.std.proofs.Common.{◌≡◌, subst}
use Rattle.ring_core.specs.Pages.{along, part_len}
use Rattle.ring_core.specs.Driven.{Lean}
use Rattle.ring_core.specs.Listing.{kept_in}
use Rattle.ring_core.proofs.Laying.{along_any}
use Rattle.ring_core.proofs.lean_end.LeanEnd.part_of.Goals as goal

pub returns-clause-words : goal.returns-clause-words
returns-clause-words g c =
    let it = c.self.inside.parts in
    let e = c.part_of.ensures in
    subst (λ (x : Lean _). along x.driven.state.pages c.args.p.now ≡ part_len c.part_of.result) c.self.view_is (along_any (kept_in it.core.pages it.past.events it.lent.events it.table) c.args.p.now c.part_of.result it.listed.count e.part e.loan)
