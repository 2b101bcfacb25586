use Rattle.std.proofs.Common.{◌≤◌, List, length, ap, ◌∙◌, arith}
use Rattle.page_kept.specs.declared.item.Item.{Item}
use Rattle.worker_port.specs.Line.{Line, words_at}
use Rattle.worker_port.proofs.ItemLaws.{line_long}
use Rattle.worker_port.proofs.PageLaws.{lent_at}
use Rattle.worker_port.proofs.port.Port.words.Goals as goal

pub unreachable-requires : goal.unreachable-requires
unreachable-requires g c =
    let none : length c.got.result.now.list ≤ c.args.i = c.in-None.ensures in
    let long = line_long g.T.Protocol.said c.self.inside.end.state in
    omega (arith, none, c.requires, ap length c.got.ensures.list, long, ap (λ (x : Line _). length x.state.got) c.self.view_is)

pub returns-clause-value : goal.returns-clause-value
returns-clause-value g c =
    c.in-Some.ensures.1
    ∙ (lent_at c.got.result.now.list c.got.result.now.lent c.args.i c.in-Some.ensures.0 ∙ (ap (λ (is : List Item). words_at is c.args.i) c.got.ensures.items ∙ ap (λ (x : Line _). words_at x.end.state.pages.got c.args.i) c.self.view_is))

pub returns-clause-few : goal.returns-clause-few
returns-clause-few g c =
    let is = c.in-Some.ensures.1 ∙ (lent_at c.got.result.now.list c.got.result.now.lent c.args.i c.in-Some.ensures.0 ∙ ap (λ (is : List Item). words_at is c.args.i) c.got.ensures.items) in
    omega (arith, ap length is, c.self.invariant.line.pages.few c.args.i)
