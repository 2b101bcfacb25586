use Rattle.std.proofs.Common.{◌≡◌, ◌≢◌, [], refl, sym, ap, subst}
use Rattle.page_kept.specs.Items.{packets}
use Rattle.ring_core.specs.Pages.{IsClear, owed}
use Rattle.ring_core.specs.Seen.{Seen}
use Rattle.ring_core.proofs.ListLaws.{list_as, list_items, list_none}
use Rattle.ring_core.proofs.end.End.items_fit.Goals as goal

pub returns-clause-items : goal.returns-clause-items
returns-clause-items g c =
    let it = c.self.invariant in
    subst (λ (x : Seen _). IsClear x.state.pages → x.state.pages.count ≢ 0 → (packets x.state.pages.sent ≡ x.state.sent) × (packets x.state.pages.got ≡ x.state.got)) c.self.view_is
    (λ clear some. (list_items it.sent some, list_items (list_as it.got refl refl refl (sym (ap owed (clear some)))) some))

pub returns-clause-bare : goal.returns-clause-bare
returns-clause-bare g c =
    let it = c.self.invariant in
    subst (λ (x : Seen _). x.state.pages.count ≡ 0 → (x.state.pages.sent ≡ []) × (x.state.pages.got ≡ [])) c.self.view_is (λ none. (list_none it.sent none, list_none it.got none))
