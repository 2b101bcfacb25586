use Rattle.std.proofs.Common.{◌≡◌, sym, ◌∙◌, subst, cond}
use Rattle.ring_machine.specs.Endings.{refused}
use Rattle.ring_machine.specs.Steps.{is_took}
use Rattle.ring_core.specs.Pages.{IsClear}
use Rattle.ring_core.specs.Seen.{Seen}
use Rattle.ring_core.proofs.ListLaws.{keeps_took, ok_is, pages_taken}
use Rattle.page_kept.specs.Kept.{pages_took}
use Rattle.page_kept.specs.Layouts.{layout}
use Rattle.ring_machine.specs.PageCalls.{newest}
use Rattle.ring_core.proofs.end.End.take_in.Goals as goal

pub invariant_of-self : goal.invariant_of-self
invariant_of-self g c =
    let m = c.take-answer.new.self.driven.state.machine in
    let e = c.take-answer.ensures in
    let k = c.keep_got.ensures in
    let whole = (c.is_stopped.ensures.not c.if-is_stopped.false).1 in
    let went : c.is_ok-went.result ≡ is_took m.ended = c.is_ok-went.ensures.value ∙ ok_is c.take-answer.result (is_took m.ended) _ (e.ran.0 whole).0 in
    keeps_took c.take-answer.result c.is_ok-went.result c.self.invariant c.is_ok-went.ensures.value (subst (λ (x : Seen _). IsClear x.state.pages) (sym c.self.view_is) c.requires.clear) e.sent e.got.0 e.pages
    (record { kept = k.kept; list = k.list; bare = λ is z. k.bare is (e.count ∙ z); paged = k.paged; places = λ is n. k.places is (λ z. n (sym e.count ∙ z)) })
    (λ is n. k.whole is (λ z. n (sym e.count ∙ z))) (λ is n. k.waits is (λ z. n (sym e.count ∙ z))) (λ is. e.uncounted whole (sym went ∙ is)) e.counts (g.met.S.Seatlike.same_pages _ _ e.same.0)

pub returns-clause-pages : goal.returns-clause-pages
returns-clause-pages g c = λ _.
    let it = c.self.inside.lean.driven.state in
    let n = c.take-answer.new.self.driven in
    let b = is_took n.state.machine.ended in
    let e = c.take-answer.ensures in
    let whole = (c.is_stopped.ensures.not c.if-is_stopped.false).1 in
    subst (λ (x : Seen _). n.state.pages ≡ cond b (pages_took (layout x.state.pages.count) x.state.pages (newest n.state.got)) x.state.pages) c.self.view_is
    (e.pages ∙ pages_taken b (refused c.take-answer.result) _ n.taken it.pages it.got n.state.got (e.ran.0 whole).0 e.got.0)
