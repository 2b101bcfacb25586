use Rattle.std.proofs.Common.{◌≢◌, sym, ap, ◌∙◌, subst}
use Rattle.channel_trace.specs.Runs.{sent_of, got_of}
use Rattle.ring_machine.specs.States.{MayLend}
use Rattle.ring_machine.specs.declared.state.EndState.{EndState}
use Rattle.ring_core.specs.Driven.{Lean}
use Rattle.ring_core.specs.Listing.{standing}
use Rattle.ring_core.proofs.Lendable.{answers_is, asks_is, guard_may, guard_whole, packets_of}
use Rattle.ring_core.proofs.lean_end.LeanEnd.may_send.Goals as goal

pub returns-then-not-is_due-clause-may : goal.returns-then-not-is_due-clause-may
returns-then-not-is_due-clause-may g c = λ t.
    let it = c.self.inside.parts in
    let p = c.args.p.now in
    let t' = it.table in
    let xs = sent_of it.past.events in
    let ys = got_of it.past.events in
    let same = ap (λ (x : Lean _). x.driven.state) c.self.view_is in
    let clear = ap (λ (x : EndState). x.pages.due) same ∙ c.is_due.ensures.clear c.if-not-is_due.true in
    let r = c.may_send.result in
    subst (λ (x : EndState). MayLend x p) same
    (λ some. guard_may (standing it.core.machine it.core.pages it.past.events it.lent.events t') p it.listed.count (packets_of xs (sent_of it.lent.events) (it.listed.sent_all some)) r
    (λ e. answers_is t'.counts xs ys (it.listed.counted some) p r (c.may_send.ensures.answers e)) (λ e. asks_is t'.counts xs ys (it.listed.counted some) p r t'.owners (c.may_send.ensures.asks e)) clear t some)

pub returns-then-not-is_due-clause-whole : goal.returns-then-not-is_due-clause-whole
returns-then-not-is_due-clause-whole g c = λ m.
    let it = c.self.inside.parts in
    let p = c.args.p.now in
    let t' = it.table in
    let xs = sent_of it.past.events in
    let ys = got_of it.past.events in
    let same = ap (λ (x : Lean _). x.driven.state) c.self.view_is in
    let some : it.core.pages.count ≢ 0 = λ z. c.if-pages-eq0.false (c.pages.ensures ∙ (sym (ap (λ (x : EndState). x.pages.count) same) ∙ z)) in
    let r = c.may_send.result in
    guard_whole (standing it.core.machine it.core.pages it.past.events it.lent.events t') p it.listed.count (packets_of xs (sent_of it.lent.events) (it.listed.sent_all some)) r
    (λ e. answers_is t'.counts xs ys (it.listed.counted some) p r (c.may_send.ensures.answers e)) (λ e. asks_is t'.counts xs ys (it.listed.counted some) p r t'.owners (c.may_send.ensures.asks e)) some (subst (λ (x : EndState). MayLend x p) (sym same) m)
