use Rattle.std.proofs.Common.{◌<◌, List, length, sym, ap, ◌∙◌, subst, arith}
use Rattle.page_kept.specs.declared.item.Item.{Item}
use Rattle.ring_core.specs.Pages.{last_words}
use Rattle.ring_core.specs.Seen.{Seen}
use Rattle.ring_core.proofs.ListLaws.{list_lent}
use Rattle.ring_core.proofs.Paging.{items_long, last_kept}
use Rattle.ring_core.proofs.end.End.last_lent.Goals as goal

pub returns : goal.returns
returns g c =
    let it = c.self.inside in
    let few = list_lent c.self.invariant.got in
    let same = c.self.invariant.got.items ∙ ap (λ (x : Seen _). x.state.pages.got) c.self.view_is in
    let some = subst (λ (is : List Item). 0 < length is) (sym same) c.requires in
    let long = items_long it.got.list it.got.lent few in
    sym (last_kept it.got.list it.got.lent c.last_lent.result.now few (c.last_lent.ensures (omega (arith, some, long)))) ∙ ap last_words same
