use Rattle.std.proofs.Common.{◌≤◌, subst}
use Rattle.ring_core.specs.Driven.{Lean}
use Rattle.ring_core.specs.Listing.{kept_in}
use Rattle.ring_core.specs.Pages.{along}
use Rattle.ring_core.proofs.Lendable.{along_few}
use Rattle.ring_core.proofs.lean_end.LeanEnd.lends_few.Goals as goal

pub returns : goal.returns
returns g c =
    let it = c.self.inside.parts in
    subst (λ (x : Lean _). along x.driven.state.pages c.args.p.now ≤ 512) c.self.view_is (along_few (kept_in it.core.pages it.past.events it.lent.events it.table) c.args.p.now c.lends_in_bounds.ensures.fit)
