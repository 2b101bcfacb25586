use Rattle.std.proofs.Common.{◌≡◌, ◌≢◌, Some, None, length, take, sym, ap, ◌∙◌, subst, arith}
use Rattle.page_kept.specs.Kept.{pages_sent}
use Rattle.page_kept.specs.Layouts.{layout}
use Rattle.ring_machine.specs.declared.state.EndState.{EndState}
use Rattle.ring_machine.specs.declared.end_core.EndCore.{EndCore}
use Rattle.ring_machine.specs.declared.machine.Stage.TheVariants.{Idle, Stopped}
use Rattle.ring_machine.specs.States.{MayLend}
use Rattle.ring_machine.specs.Steps.{is_busy_at}
use Rattle.ring_core.specs.Pages.{along, last_words}
use Rattle.ring_core.specs.Driven.{Lean, broken}
use Rattle.ring_core.specs.Listing.{kept_in, standing}
use Rattle.ring_core.proofs.Laying.{along_any, along_on, lends_on, may_lay, stores_told, words_on}
use Rattle.ring_core.proofs.Calls.{idle_is}
use Rattle.ring_core.proofs.lean_end.LeanEnd.lay.Goals as goal

pub store_words-requires-clause-few : goal.store_words-requires-clause-few
store_words-requires-clause-few g c =
    let it = c.self.inside.parts in
    let e = c.in-Some.ensures in
    let p = c.args.p.now in
    let long : along (kept_in it.core.pages it.past.events it.lent.events it.table) p ≡ c.in-Some.part.words = along_any (kept_in it.core.pages it.past.events it.lent.events it.table) p (Some c.in-Some.part) it.listed.count e.part e.loan in
    omega (arith, c.requires.fits, ap (λ (x : Lean _). along x.driven.state.pages p) c.self.view_is, long, e.loan.2)

pub store_words-requires-clause-may : goal.store_words-requires-clause-may
store_words-requires-clause-may g c = λ w h.
    let it = c.self.inside.parts in
    let e = c.in-Some.ensures in
    let p = c.args.p.now in
    let long : along (kept_in it.core.pages it.past.events it.lent.events it.table) p ≡ c.in-Some.part.words = along_any (kept_in it.core.pages it.past.events it.lent.events it.table) p (Some c.in-Some.part) it.listed.count e.part e.loan in
    may_lay (standing it.core.machine it.core.pages it.past.events it.lent.events it.table) p c.in-Some.part w it.listed.count (subst (λ (x : Lean _). MayLend x.driven.state p) (sym c.self.view_is) c.requires.lends) e.part e.loan e.held
    (omega (arith, h, c.requires.fits, ap (λ (x : Lean _). along x.driven.state.pages p) c.self.view_is, long))

pub returns-in-Some-clause-lends : goal.returns-in-Some-clause-lends
returns-in-Some-clause-lends g c =
    let it = c.self.inside.parts in
    let e = c.in-Some.ensures in
    let p = c.args.p.now in
    let s = standing it.core.machine it.core.pages it.past.events it.lent.events it.table in
    subst (λ (x : EndState). MayLend x p) (sym c.store_words.ensures.ran.state)
    (lends_on s p c.args.words.now (Some c.in-Some.part) it.listed.count e.part e.loan c.lends_in_bounds.ensures.copied (omega (arith, c.requires.fits, ap (λ (x : Lean _). along x.driven.state.pages p) c.self.view_is))
    (subst (λ (x : Lean _). MayLend x.driven.state p) (sym c.self.view_is) c.requires.lends))

pub returns-in-Some-clause-along : goal.returns-in-Some-clause-along
returns-in-Some-clause-along g c =
    let it = c.self.inside.parts in
    let e = c.in-Some.ensures in
    let p = c.args.p.now in
    let s = standing it.core.machine it.core.pages it.past.events it.lent.events it.table in
    ap (λ (x : EndState). along x.pages p) c.store_words.ensures.ran.state
    ∙ (along_on s p c.args.words.now (Some c.in-Some.part) it.listed.count e.part e.loan c.lends_in_bounds.ensures.copied (omega (arith, c.requires.fits, ap (λ (x : Lean _). along x.driven.state.pages p) c.self.view_is))
    ∙ ap (λ (x : Lean _). along x.driven.state.pages p) c.self.view_is)

pub returns-in-Some-clause-words : goal.returns-in-Some-clause-words
returns-in-Some-clause-words g c =
    let it = c.self.inside.parts in
    let e = c.in-Some.ensures in
    let p = c.args.p.now in
    let s = standing it.core.machine it.core.pages it.past.events it.lent.events it.table in
    subst (λ (x : EndState). x.pages.count ≢ 0 → take (length c.args.words.now) (last_words (pages_sent (layout x.pages.count) x.pages p).sent) ≡ c.args.words.now) (sym c.store_words.ensures.ran.state)
    (words_on s p c.args.words.now (Some c.in-Some.part) it.listed.count e.part e.loan c.lends_in_bounds.ensures.copied (omega (arith, c.requires.fits, ap (λ (x : Lean _). along x.driven.state.pages p) c.self.view_is)))

pub returns-in_default-clause-words : goal.returns-in_default-clause-words
returns-in_default-clause-words g c =
    let it = c.self.inside.parts in
    let e = c.in_default.ensures in
    let p = c.args.p.now in
    let s = standing it.core.machine it.core.pages it.past.events it.lent.events it.table in
    subst (λ (x : Lean _). x.driven.state.pages.count ≢ 0 → take (length c.args.words.now) (last_words (pages_sent (layout x.driven.state.pages.count) x.driven.state.pages p).sent) ≡ c.args.words.now) c.self.view_is
    (words_on s p c.args.words.now None it.listed.count e.part e.loan c.lends_in_bounds.ensures.copied (omega (arith, c.requires.fits, ap (λ (x : Lean _). along x.driven.state.pages p) c.self.view_is)))

pub invariant_of-self : goal.invariant_of-self
invariant_of-self g c =
    let it = c.self.inside.parts in
    let new = c.store_words.new.self in
    let e = c.store_words.ensures in
    let idle : it.core.machine.stage ≡ Idle = idle_is it.core.machine it.core.sound c.self.invariant.rests (ap (λ (x : Lean _). broken x.driven.state) c.self.view_is ∙ c.requires.whole) in
    let count : new.core.pages.count ≡ it.core.pages.count = ap (λ (k : EndCore). k.pages.count) e.kept.0 in
    let stage : new.core.machine.stage ≡ it.core.machine.stage = ap (λ (k : EndCore). k.machine.stage) e.kept.0 in
    record {
      rests = ap is_busy_at stage ∙ c.self.invariant.rests;
      cells = e.cells;
      told = λ u h. stores_told (standing it.core.machine it.core.pages it.past.events it.lent.events it.table) (standing new.core.machine new.core.pages new.past.events new.lent.events new.table) c.in-Some.part.page c.args.words.now _ _ _ _ e.ran u h;
      pages = λ some. g.met.S.Seatlike.same_pages _ _ e.same ∙ (c.self.invariant.pages (λ z. some (count ∙ z)) ∙ sym count);
      honest = λ u h s. (let z : Idle ≡ Stopped = sym idle ∙ (sym stage ∙ s) in cc);
    }
