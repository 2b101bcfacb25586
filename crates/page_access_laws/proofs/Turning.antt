-- A channel with data pages one of whose ends goes by plans keeps its rule.
use Rattle.std.proofs.Common.{◌≤◌, ◌≡◌, ◌≢◌, ℕ, ◌<◌, false, List, [], ◌∷◌, ◌++◌, Some, refl, sym, ap, ◌∙◌, subst, arith}
use Rattle.io_edge.specs.declared.side.Side.{Side}
use Rattle.io_edge.specs.declared.side.Side.TheVariants.{Guest, Host}
use Rattle.page_kept.specs.Items.{packets}
use Rattle.page_kept.specs.Keepers.{MayStore, asked, back}
use Rattle.page_kept.specs.Layouts.{layout}
use Rattle.page_kept.specs.Stepped.{page_loaded, page_stored, word_in}
use Rattle.page_kept.specs.declared.due.Due.TheVariants.{Loads}
use Rattle.ring_machine.specs.declared.machine.Stage.{Stage}
use Rattle.ring_machine.specs.declared.machine.Stage.TheVariants.{Idle, Stopped}
use Rattle.ring_machine.specs.declared.state.EndState.{EndState}
use Rattle.ring_machine.specs.PageCalls.{newest, with_pages}
use Rattle.ring_machine.specs.Places.{peer_of, words_of}
use Rattle.ring_machine.specs.States.{after, entered}
use Rattle.ring_machine.specs.Steps.{is_busy_at, next_of}
use Rattle.ring_core.specs.Told.{answer_in}
use Rattle.ring_seat.specs.PageRule.{ring_words}
use Rattle.ring_seat.specs.Rule.{with_end}
use Rattle.ring_seat.specs.Whole.{WholeRule}
use Rattle.ring_seat.proofs.Loading.{newest_is}
use Rattle.ring_seat.proofs.WholeLaws.{call_keeps, load_keeps_all, step_keeps, store_keeps_all}
use Rattle.ring_call_plan_laws.specs.Plays.{Channel}
use Rattle.ring_seat.specs.PageRule.{keeper_of}
use Rattle.ring_seat.proofs.WholeLaws.{part_of as part_at}
use Rattle.ring_loan_rule.proofs.Reading.{says}
use Rattle.ring_call_plan_laws.proofs.Channels.{here, there, own_side}
use Rattle.page_call_plan.specs.Shown.{part_of}
use Rattle.page_access_laws.specs.Calls.{IsExactIn, BacksAsked, PagedEnd, IsShown, PagedCall, RingCall, StoreCall, LoadCall, IsHeardBy, IsLet, IsPagedCall, PagedAccess, OfRing, StoresWord, LoadsWord, AreAllowed, IsAllowed, BeginsIn, accesses_by, after_all, begun_in, left_by}
use Rattle.page_access_laws.specs.Turns.{IsLawfulPaged, IsPlayed, PagedTurn, Own, PeerStep, PeerCall, PeerStores, PeerLoads, opened_by, own_of, played}
use Rattle.page_access_laws.proofs.Ringed.{ring_call}
use Rattle.page_access_laws.proofs.Words.{load_call, store_call}

pub is_call : (s : EndState) (z : PagedEnd) (a : PagedCall) → IsShown z s → IsLet z a → IsHeardBy z a → IsPagedCall s z a
is_call s z (RingCall c) sh lets heard = ring_call s z sh c lets.0 lets.1 heard
is_call s z (StoreCall q w vs) sh lets heard = store_call s z sh q w vs lets
is_call s z (LoadCall vs) sh lets heard = load_call s z sh vs lets heard

idle_by : (st : Stage) → is_busy_at st ≡ false → st ≢ Stopped → st ≡ Idle
idle_by Idle n h = refl
idle_by Stopped n h = absurd (h refl)
idle_by _ n h = absurd (cc)

-- all but the last accesses are allowed too
front_allowed : (s : EndState) (rest acts : List PagedAccess) → AreAllowed s (rest ++ acts) → AreAllowed s acts
front_allowed s [] acts h = h
front_allowed s (a ∷ rest) acts h = front_allowed s rest acts h.1

module _ (n c : ℕ) (x : Side) (s : EndState) (some : c ≢ 0) where
  -- the rule holds, and the end is in the state after its accesses so far
  record Kept (w : Channel) (acts : List PagedAccess) : Type 0 where
    rule : IsLawfulPaged n c w
    state : w.ends x ≡ after_all s acts

  idle_of : (w : Channel) → IsLawfulPaged n c w → is_busy_at (w.ends x).machine.stage ≡ false → (w.ends x).machine.stage ≡ Idle
  idle_of w r b = idle_by (w.ends x).machine.stage b (r.rings.own x).goes

  may_of : (w : Channel) (q i : ℕ) → IsLawfulPaged n c w → MayStore (layout (w.ends x).pages.count) (w.ends x).machine.side (w.ends x).pages q i → MayStore (layout c) x (w.ends x).pages q i
  may_of w q i r m = subst (λ (u : ℕ × Side). MayStore (layout u.0) u.1 (w.ends x).pages q i) (λ j. (((r.pages some).own x).count j, own_side n (ring_words n w.words) w.ends x r.rings j)) m

  -- a load of a word that is due, by either end
  loads_keep : (y : Side) (w : Channel) (q m j : ℕ) → IsLawfulPaged n c w → (w.ends y).machine.stage ≡ Idle → (w.ends y).pages.due ≡ Loads q m j → q < c → j < 512
      → WholeRule n c w.words (with_end y (with_pages (w.ends y) (page_loaded (w.ends y).pages (newest (w.ends y).got) (word_in (words_of n) w.words q j))) w.ends)
  loads_keep y w q m j r idle due inside small =
      let k = load_keeps_all n c y w.words w.ends q m j some r idle due inside small in
      subst (λ (p : List ℕ). WholeRule n c w.words (with_end y (with_pages (w.ends y) (page_loaded (w.ends y).pages p (word_in (words_of n) w.words q j))) w.ends))
      (sym (newest_is (w.ends y).got (packets (w.ends y).pages.got) k.0 k.1)) k.2

  all_kept : (w : Channel) → IsLawfulPaged n c w → w.ends x ≡ s → (turns : List PagedTurn) → IsPlayed n c x w turns → AreAllowed s (own_of turns) → Kept (played n x w turns) (own_of turns)
  all_kept w rule is [] p h = record { rule = rule; state = is }
  all_kept w rule is (Own (OfRing a) ∷ turns) p h =
      let k = all_kept w rule is turns p.1 h.1 in
      let v : Channel = played n x w turns in
      let names : next_of (v.ends x).machine (v.ends x).packet ≡ Some a.op = ap (λ (t : EndState). next_of t.machine t.packet) k.state ∙ h.0 in
      record {
        rule = step_keeps n c x v.words v.ends a.op some k.rule names;
        state = here x (after (v.ends x) (answer_in n a.op v.words)) v.ends ∙ (λ i. after (k.state i) (sym p.0 i));
      }
  all_kept w rule is (Own (StoresWord q j u) ∷ turns) p h =
      let k = all_kept w rule is turns p.1 h.1 in
      let v : Channel = played n x w turns in
      let may : IsAllowed (v.ends x) (StoresWord q j u) = subst (λ (t : EndState). IsAllowed t (StoresWord q j u)) (sym k.state) h.0 in
      record {
        rule = store_keeps_all n c x v.words v.ends q j u some k.rule (idle_of v k.rule may.0) (may_of v q j k.rule may.1);
        state = here x (with_pages (v.ends x) (page_stored (v.ends x).pages q j u)) v.ends ∙ ap (λ (t : EndState). with_pages t (page_stored t.pages q j u)) k.state;
      }
  all_kept w rule is (Own (LoadsWord q j u) ∷ turns) p h =
      let k = all_kept w rule is turns p.1 h.1 in
      let v : Channel = played n x w turns in
      let may : IsAllowed (v.ends x) (LoadsWord q j u) = subst (λ (t : EndState). IsAllowed t (LoadsWord q j u)) (sym k.state) h.0 in
      let count = ((k.rule.pages some).own x).count in
      let inside = may.3 in
      let less = may.4 in
      let most = may.5 in
      record {
        rule = loads_keep x v q may.1 j k.rule (idle_of v k.rule may.0) may.2 (omega (arith, inside, count)) (omega (arith, less, most));
        state = here x (with_pages (v.ends x) (page_loaded (v.ends x).pages (newest (v.ends x).got) (word_in (words_of n) v.words q j))) v.ends ∙ (λ i. with_pages (k.state i) (page_loaded (k.state i).pages (newest (k.state i).got) (sym p.0 i)));
      }
  all_kept w rule is (PeerStep op ∷ turns) p h =
      let k = all_kept w rule is turns p.1 h in
      let v : Channel = played n x w turns in
      record { rule = step_keeps n c (peer_of x) v.words v.ends op some k.rule p.0; state = there x (after (v.ends (peer_of x)) (answer_in n op v.words)) v.ends ∙ k.state }
  all_kept w rule is (PeerCall m q ∷ turns) p h =
      let k = all_kept w rule is turns p.1 h in
      let v : Channel = played n x w turns in
      record { rule = call_keeps n c (peer_of x) v.words v.ends m q some k.rule p.0; state = there x (entered (v.ends (peer_of x)) m q) v.ends ∙ k.state }
  all_kept w rule is (PeerStores q j u ∷ turns) p h =
      let k = all_kept w rule is turns p.1 h in
      let v : Channel = played n x w turns in
      record {
        rule = store_keeps_all n c (peer_of x) v.words v.ends q j u some k.rule p.0.0 p.0.1;
        state = there x (with_pages (v.ends (peer_of x)) (page_stored (v.ends (peer_of x)).pages q j u)) v.ends ∙ k.state;
      }
  all_kept w rule is (PeerLoads q j ∷ turns) p h =
      let k = all_kept w rule is turns p.1 h in
      let v : Channel = played n x w turns in
      record {
        rule = loads_keep (peer_of x) v q p.0.1 j k.rule p.0.0 p.0.2 p.0.3 p.0.4;
        state = there x (with_pages (v.ends (peer_of x)) (page_loaded (v.ends (peer_of x)).pages (newest (v.ends (peer_of x)).got) (word_in (words_of n) v.words q j))) v.ends ∙ k.state;
      }

module _ (n c : ℕ) (x : Side) (w : Channel) (z : PagedEnd) (a : PagedCall) (some : c ≢ 0) (rule : IsLawfulPaged n c w) (shows : IsShown z (w.ends x)) (lets : IsLet z a) (heard : IsHeardBy z a) where
  call : IsPagedCall (w.ends x) z a
  call = is_call (w.ends x) z a shows lets heard

  abbrev base : EndState
  base = begun_in (w.ends x) a

  -- an end that is put in its own place
  same_ends : (y : Side) → with_end x (w.ends x) w.ends y ≡ w.ends y
  same_ends = by_side x
    where
      by_side : (u y : Side) → with_end u (w.ends u) w.ends y ≡ w.ends y
      by_side Guest Guest = refl
      by_side Host Guest = refl
      by_side _ _ = refl

  opened : (b : PagedCall) → BeginsIn (w.ends x) b → IsLawfulPaged n c (opened_by x b w)
  opened (RingCall d) begins = call_keeps n c x w.words w.ends _ _ some rule begins
  opened (StoreCall q i vs) begins = subst (WholeRule n c w.words) (λ i y. sym (same_ends y) i) rule
  opened (LoadCall vs) begins = subst (WholeRule n c w.words) (λ i y. sym (same_ends y) i) rule

  side_is : (w.ends x).machine.side ≡ x
  side_is = own_side n (ring_words n w.words) w.ends x rule.rings

  steps : AreAllowed base (accesses_by x z a)
  steps = subst (λ (y : Side). AreAllowed base (accesses_by y z a)) side_is call.steps

  pub keeps_rule : (turns : List PagedTurn) (rest : List PagedAccess) → IsPlayed n c x (opened_by x a w) turns → rest ++ own_of turns ≡ accesses_by x z a → IsLawfulPaged n c (played n x (opened_by x a w) turns)
  keeps_rule turns rest p is =
      (all_kept n c x base some (opened_by x a w) (opened a call.begins) (here x base w.ends) turns p (front_allowed base rest (own_of turns) (subst (AreAllowed base) (sym is) steps))).rule

  ends_at : (turns : List PagedTurn) → IsPlayed n c x (opened_by x a w) turns → own_of turns ≡ accesses_by x z a → after_all base (accesses_by (w.ends x).machine.side z a) ≡ (played n x (opened_by x a w) turns).ends x
  ends_at turns p is =
      let k = all_kept n c x base some (opened_by x a w) (opened a call.begins) (here x base w.ends) turns p (subst (AreAllowed base) (sym is) steps) in
      ap (λ (y : Side). after_all base (accesses_by y z a)) side_is ∙ (ap (after_all base) (sym is) ∙ sym k.state)

  pub ends_so : (turns : List PagedTurn) → IsPlayed n c x (opened_by x a w) turns → own_of turns ≡ accesses_by x z a → IsShown (left_by z a) ((played n x (opened_by x a w) turns).ends x)
  ends_so turns p is = subst (IsShown (left_by z a)) (ends_at turns p is) call.shows

  -- a lawful peer completes no request twice
  backs : (v : Channel) → IsLawfulPaged n c v → (t : ℕ) → back t (part_of (v.ends x).machine.side (v.ends x).got (v.ends x).pages) ≤ asked t (part_of (v.ends x).machine.side (v.ends x).got (v.ends x).pages)
  backs v r t =
      let o = (part_at n c v.words v.ends x (r.pages some)).owned in
      let i = (says (layout c) x (word_in (words_of n) v.words) (keeper_of c x (v.ends x)) (keeper_of c (peer_of x) (v.ends (peer_of x))) o).counts t in
      let j = i.done_taken in
      let k = i.done_sent in
      let l = i.ask_taken in
      omega (arith, j, k, l)

  pub exact_so : (turns : List PagedTurn) → IsPlayed n c x (opened_by x a w) turns → own_of turns ≡ accesses_by x z a → IsExactIn (w.ends x) z.asks → IsExactIn ((played n x (opened_by x a w) turns).ends x) (left_by z a).asks
  exact_so turns p is e = subst (λ (t : EndState). BacksAsked t → IsExactIn t (left_by z a).asks) (ends_at turns p is) (call.exact e) (backs (played n x (opened_by x a w) turns) (keeps_rule turns [] p is))
