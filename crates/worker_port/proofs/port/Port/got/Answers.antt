use Rattle.std.proofs.Common.{◌≤◌, List, ℕ, length, sym, ap, ◌∙◌, arith, Some}
use Rattle.std.specs.Prelude.{slice_get}
use Rattle.page_kept.specs.declared.item.Item.{Item}
use Rattle.page_kept.specs.Items.{item_of}
use Rattle.worker_port.specs.Line.{Line, words_at}
use Rattle.worker_port.proofs.ItemLaws.{items_along, line_at, line_long}
use Rattle.worker_port.proofs.PageLaws.{no_words}
use Rattle.worker_port.proofs.port.Port.got.Goals as goal

pub unreachable-requires : goal.unreachable-requires
unreachable-requires g c =
    let none : length c.got.result.now.list ≤ c.args.i = c.in-None.ensures in
    let long = line_long g.T.Protocol.said c.self.inside.end.state in
    omega (arith, none, c.requires, ap length c.got.ensures.list, long, ap (λ (x : Line _). length x.state.got) c.self.view_is)

pub returns-clause-value : goal.returns-clause-value
returns-clause-value g c =
    let e = c.self.inside.end in
    ap (λ (x : Line _). slice_get x.state.got c.args.i) (sym c.self.view_is)
    ∙ (line_at g.T.Protocol.said e.state c.args.i _ (items_along g.S.Seatlike.told e c.self.invariant.line).1 (ap (λ l. slice_get l c.args.i) (sym c.got.ensures.list) ∙ c.in-Some.ensures)
    ∙ ap (λ (x : Line _). Some (g.T.Protocol.said (item_of c.in-Some.packet.now (words_at x.end.state.pages.got c.args.i)))) c.self.view_is)

pub returns-clause-bare : goal.returns-clause-bare
returns-clause-bare g c = λ z.
    let e = c.self.inside.end in
    let none = (c.self.invariant.line.pages.none (ap (λ (x : Line _). x.end.state.pages.count) c.self.view_is ∙ z)).1 in
    ap (λ (x : Line _). slice_get x.state.got c.args.i) (sym c.self.view_is)
    ∙ (line_at g.T.Protocol.said e.state c.args.i _ (items_along g.S.Seatlike.told e c.self.invariant.line).1 (ap (λ l. slice_get l c.args.i) (sym c.got.ensures.list) ∙ c.in-Some.ensures)
    ∙ ap (λ (w : List ℕ). Some (g.T.Protocol.said (item_of c.in-Some.packet.now w))) (ap (λ (is : List Item). words_at is c.args.i) none ∙ no_words c.args.i))
