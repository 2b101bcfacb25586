use Rattle.std.proofs.Common.{◌≡◌, ◌≢◌, ℕ, List, ◌+◌, ◌++◌, ◌∷◌, [], length, refl, sym, ap, subst, arith, ◌∙◌}
use Rattle.channel_trace.specs.Runs.{got_of}
use Rattle.channel_trace.specs.declared.event.Event.{Event}
use Rattle.channel_trace.specs.declared.event.Event.TheVariants.{Got as GotEvent}
use Rattle.ring_machine.specs.declared.state.EndState.{EndState}
use Rattle.page_kept.specs.declared.page_call.PageCall.TheVariants.{LoadWords}
use Rattle.ring_core.specs.PageRuns.{RanPages}
use Rattle.ring_core.specs.Pages.{owed, resting_in, items_of}
use Rattle.ring_core.proofs.Paging.{due_inside}
use Rattle.ring_core.specs.Listing.{got_in, sent_in, standing}
use Rattle.ring_core.proofs.Loading.{items_last}
use Rattle.ring_core.proofs.parts.Parts.load_words.Goals as goal

pub returns-clause-ran : goal.returns-clause-ran
returns-clause-ran g c =
    let it = c.args.self.now in
    let c0 = it.core.pages.count in
    let inside = due_inside it.core.pages it.core.machine.stage c.args.page c.args.words it.core.fit c.requires.due in
    let some : c0 ≢ 0 = λ e. omega (arith, e, inside.0) in
    let long : length (got_of it.past.events) ≡ length (got_of it.lent.events) + 1 = omega (arith, it.listed.got_all some, ap owed c.requires.due) in
    let past = it.past.events in
    let lent : List (Event (List ℕ)) = GotEvent c.words.result.now ∷ it.lent.events in
    let l = c.load_words.ensures.loads in
    let e = c.load_words.new in
    let ran = l.ran (sent_in past it.lent.events) (got_in past it.lent.events) (got_in past lent) past c.requires.told long refl (ap (λ (w : List ℕ). got_of it.lent.events ++ w ∷ []) c.words.ensures) in
    subst (λ (t : EndState). RanPages (standing it.core.machine it.core.pages past it.lent.events it.table) t (LoadWords c.args.page c.args.words 0) (g.S.Seatlike.told it.seat) (g.S.Seatlike.told e.seat) (g.S.Seatlike.tale it.seat) (g.S.Seatlike.tale e.seat))
    (λ i. resting_in e.core.machine e.core.pages (sent_in past (sym c.got-self.ensures i)) (got_in past (sym c.got-self.ensures i)) past e.table) ran

pub load_words-requires-clause-rests : goal.load_words-requires-clause-rests
load_words-requires-clause-rests g c =
    let it = c.args.self.now in
    record {
      idle = c.requires.idle;
      off = it.listed.off;
      fits = c.requires.fits;
      pages = c.requires.pages;
      count = it.listed.count;
      sent = sent_in it.past.events it.lent.events;
      got = got_in it.past.events it.lent.events;
      past = it.past.events;
      stands = c.requires.told;
    }

pub returns-clause-got : goal.returns-clause-got
returns-clause-got g c =
    let it = c.args.self.now in
    let inside = due_inside it.core.pages it.core.machine.stage c.args.page c.args.words it.core.fit c.requires.due in
    let some : it.core.pages.count ≢ 0 = λ e. omega (arith, e, inside.0) in
    let long : length (got_of it.past.events) ≡ length (got_of it.lent.events) + 1 = omega (arith, it.listed.got_all some, ap owed c.requires.due) in
    ap (λ (es : List (Event (List ℕ))). items_of (got_of it.past.events) (got_of es)) c.got-self.ensures
    ∙ (ap (λ (w : List ℕ). items_of (got_of it.past.events) (got_of it.lent.events ++ w ∷ [])) c.words.ensures
    ∙ items_last (got_of it.past.events) (got_of it.lent.events) _ long)
