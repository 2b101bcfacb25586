-- What is told of an end and its peer, with the channel's pages, and how each step of that end keeps it.
use Rattle.std.proofs.Common.{rules, ltb, ◌≡◌, ◌≢◌, ℕ, ◌<◌, Bool, true, false, List, take, get_or, set, Option, Some, None, refl, sym, ap, ◌∙◌, subst, arith, ⊎_elim}
use Rattle.std.proofs.lemmas.Bool.Decides.{nat_tests}
use Rattle.std.proofs.lemmas.List.{take-set-le}
use Rattle.io_edge.specs.declared.side.Side.{Side}
use Rattle.io_edge.specs.declared.side.Side.TheVariants.{Guest}
use Rattle.page_kept.specs.Keepers.{MayStore}
use Rattle.page_kept.specs.Layouts.{layout}
use Rattle.page_kept.specs.Stepped.{call_fed, with_call, word_in, page_stored, page_loaded}
use Rattle.page_kept.specs.declared.due.Due.{Due}
use Rattle.page_kept.specs.declared.due.Due.TheVariants.{Clear, Loads}
use Rattle.page_kept.specs.declared.kept.Kept.{Kept}
use Rattle.page_kept.specs.declared.page_call.PageCall.{PageCall}
use Rattle.page_kept.specs.declared.page_call.PageCall.TheVariants.{Off, StoreWord, LoadWords}
use Rattle.ring_machine.specs.declared.machine.Stage.{Stage}
use Rattle.ring_machine.specs.declared.machine.Stage.TheVariants.{Idle, Stopped}
use Rattle.ring_machine.specs.declared.machine.EndMachine.{EndMachine}
use Rattle.ring_machine.specs.declared.state.EndState.{EndState}
use Rattle.ring_machine.specs.declared.place.Op.{Op}
use Rattle.ring_machine.specs.declared.place.Op.TheVariants.{Raise}
use Rattle.ring_machine.specs.Places.{peer_of, words_of}
use Rattle.ring_machine.specs.PageCalls.{is_call_of, page_op, with_pages, newest, ContinuesPage, BeginsPage}
use Rattle.ring_machine.specs.Steps.{fed, fed_at, next_of, is_busy_at}
use Rattle.ring_machine.specs.States.{Begins, Continues, entered}
use Rattle.ring_machine.proofs.Fitting.{inside_store, inside_load}
use Rattle.ring_core.specs.declared.told.Told.{Told}
use Rattle.ring_core.specs.Told.{written, answer_in, told_at, told_next, told_page, told_step, GoesOn}
use Rattle.ring_core.proofs.Performed.{ring_went}
use Rattle.ring_seat.specs.PageRule.{is_unsent_at, is_taking_at, ring_words, PagesPart, page_index}
use Rattle.ring_seat.specs.Seats.{Holds, IsLoading, Making, made, states, word_at}
use Rattle.ring_seat.proofs.Places.{word_small}
use Rattle.ring_seat.proofs.Loading.{step_loading, fed_count, load_loading, load_called, newest_is}
use Rattle.ring_seat.proofs.PageLists.{stepped_pages}
use Rattle.ring_seat.proofs.PointLaws.{begins_opens}
use Rattle.ring_machine.proofs.Sound.{no_true}
use Rattle.ring_loan_rule.proofs.Counts.{yes_is}
use Rattle.atomic_table.specs.Table.{State}
use mathlib.Core.Option.{some}
use lib.ListN.{get_elem?}
use Rattle.ring_seat.specs.declared.view.View.{View}
use Rattle.ring_seat.specs.declared.view.View.TheVariants.{One}
use Rattle.ring_seat.proofs.Counting.{Counted, counted_of, next_counted, at_counted}
use Rattle.ring_seat.proofs.PageSteps.{written_take, answer_take, page_step, part_begun, aside, store_keeps, pk, pk_is, load_keeps}
use Rattle.ring_seat.proofs.WholeLaws.{part_of}

pub record Known (n c : ℕ) (x : Side) (ws : List ℕ) (u p : Told) : Type 0 where
  pub rings : Counted n x (ring_words n ws) u p
  pub pages : c ≢ 0 → PagesPart n c ws x u.state p.state
  pub count : u.state.pages.count ≡ c
  pub loads : c ≢ 0 → IsLoading u.state.pages.call u.state.pages.due

-- what the rule of the table says from the side of the end that the view id tells of
pub known_of : (n c id : ℕ) (s : State (Unit {0}) View) (u : Told) (it : Holds n c s) → get_elem? s.views id ≡ some (One u) → Known n c u.state.machine.side s.words u (it.ends (peer_of u.state.machine.side))
known_of n c id s u it at =
    let x : Side = u.state.machine.side in
    subst (λ (w : Told). Known n c x s.words w (it.ends (peer_of x))) (sym (it.seats id (One u) at).0)
    (record { rings = counted_of n (ring_words n s.words) it.ends it.channel.rings it.signals x; pages = λ some. part_of n c s.words (states it.ends) x (it.channel.pages some); count = it.counts x; loads = λ some. it.loads some x })

-- a call of the rings that begins, or goes on
at_known : (n c : ℕ) (x : Side) (ws : List ℕ) (u p : Told) → Known n c x ws u p → (m : EndMachine) (q : List ℕ) → Continues u.state m q → Known n c x ws (told_at u m q) p
at_known n c x ws u p k m q go = record {
  rings = at_counted n x (ring_words n ws) u p k.rings m q go;
  pages = λ some.
      ⊎_elim (λ (z : (m ≡ u.state.machine) × (q ≡ u.state.packet)). subst (λ (w : EndMachine × List ℕ). PagesPart n c ws x (entered u.state w.0 w.1) p.state) (λ j. (sym z.0 j, sym z.1 j)) (k.pages some))
      (λ (b : Begins u.state m q). part_begun n c x ws u.state p.state m q some k.rings.sided.both.fits.side (k.pages some) (begins_opens u.state m q k.rings.sided.mine.point b)) go;
  count = k.count;
  loads = k.loads;
}

-- a step of the rings
next_known : (n c : ℕ) (x : Side) (ws : List ℕ) (u p : Told) → Known n c x ws u p → (op : Op) → next_of u.state.machine u.state.packet ≡ Some op → Known n c x (written n op ws) (told_next u (answer_in n op ws)) p
next_known n c x ws u p k op h =
    let e : EndState = u.state in
    let v : ℕ = answer_in n op ws in
    let small : word_at n op < words_of n =
    word_small e.machine e.packet op (word_at n op) (words_of n) k.rings.sided.both.fits.sound h (ap (λ (z : ℕ). word_at z op) (sym k.rings.sided.both.fits.cells)) (ap words_of (sym k.rings.sided.both.fits.cells)) in
    record {
      rings = subst (λ (z : List ℕ × ℕ). Counted n x z.0 (told_next u z.1) p) (λ j. (sym (written_take n op ws small) j, answer_take n op ws small j)) (next_counted n x (ring_words n ws) u p k.rings op h);
      pages = λ some. page_step n c x ws e p.state some k.rings.sided (k.pages some) op h;
      count = (stepped_pages e.machine.stage e.machine e.pages e.packet e.copied v).count ∙ k.count;
      loads = λ some. step_loading e.machine.stage e.machine e.pages e.packet e.copied v (λ t. ((k.pages some).mine.sending t).clear) (k.pages some).mine.taking (k.loads some);
    }

-- an end with other pages
counted_aside : (n : ℕ) (x : Side) (ws : List ℕ) (u p : Told) (j : Kept) (steps : ℕ) → Counted n x ws u p → Counted n x ws record { state = with_pages u.state j; steps = steps; raised = u.raised; woke = u.woke } p
counted_aside n x ws u p j steps k = record { sided = aside n x ws u.state p.state j k.sided; mine = k.mine; peers = k.peers }

-- the pages' rule doesn't see the page call
part_called : (n c : ℕ) (x : Side) (ws : List ℕ) (e p : EndState) (j : Kept) (d : PageCall) → PagesPart n c ws x (with_pages e j) p → PagesPart n c ws x (with_pages e (with_call d j)) p
part_called n c x ws e p j d g = search rules

-- a store of a page word
store_known : (n c : ℕ) (x : Side) (ws : List ℕ) (u p : Told) (q w v : ℕ) → Known n c x ws u p → is_call_of c (StoreWord q w v) ≡ true → ContinuesPage u.state (StoreWord q w v)
    → Known n c x (set ws (page_index n q w) v) (told_page u (StoreWord q w v) 0) p
store_known n c x ws u p q w v k h go = ⊎_elim (λ (z : StoreWord q w v ≡ u.state.pages.call). absurd (subst (λ (d : PageCall). IsLoading d u.state.pages.due) (sym z) (k.loads some))) begun go
  where
    some : c ≢ 0
    some z = omega (arith, z, (inside_store c q w v h).0)

    begun : BeginsPage u.state (StoreWord q w v) → Known n c x (set ws (page_index n q w) v) (told_page u (StoreWord q w v) 0) p
    begun b =
        let may : MayStore (layout c) x u.state.pages q w = subst (λ (z : ℕ × Side). MayStore (layout z.0) z.1 u.state.pages q w) (λ j. (k.count j, k.rings.sided.both.fits.side j)) b.3 in
        let same : take (words_of n) (set ws (page_index n q w) v) ≡ take (words_of n) ws = take-set-le (words_of n) ws (page_index n q w) v (omega arith) in
        let part = (store_keeps n c x ws u.state p.state some k.rings.sided (k.pages some) (no_true (ap is_unsent_at b.0)) (no_true (ap is_taking_at b.0)) q w v may).1 in
        record {
          rings = subst (λ (z : List ℕ). Counted n x z (told_page u (StoreWord q w v) 0) p) (sym same) (counted_aside n x (ring_words n ws) u p _ _ k.rings);
          pages = λ _. part_called n c x _ u.state p.state (page_stored u.state.pages q w v) Off part;
          count = k.count;
          loads = λ _. tt;
        }

-- a load of a page word
load_known : (n c : ℕ) (x : Side) (ws : List ℕ) (u p : Told) (q m j : ℕ) → Known n c x ws u p → is_call_of c (LoadWords q m j) ≡ true → ContinuesPage u.state (LoadWords q m j)
    → Known n c x ws (told_page u (LoadWords q m j) (get_or ws (page_index n q j) 0)) p
load_known n c x ws u p q m j k h go =
    let e : EndState = u.state in
    let inside = inside_load c q m j h in
    let some : c ≢ 0 = λ z. omega (arith, z, inside.0) in
    let due : e.pages.due ≡ Loads q m j =
    ⊎_elim (λ (z : LoadWords q m j ≡ e.pages.call). subst (λ (d : PageCall). IsLoading d e.pages.due) (sym z) (k.loads some)) (λ (b : BeginsPage e (LoadWords q m j)). b.2) go in
    let g = k.pages some in
    let unsent : is_unsent_at e.machine.stage ≡ true → ⊥ = λ z. not_clear e.pages.due due (g.mine.sending z).clear in
    let untaken : is_taking_at e.machine.stage ≡ true → ⊥ = λ z. not_clear e.pages.due due (g.mine.taking z) in
    let small : j < 512 = omega (arith, inside.1, inside.2) in
    let v : ℕ = get_or ws (page_index n q j) 0 in
    let last : List ℕ = pk n c x ws e p.state some k.rings.sided g unsent untaken q m j due inside.0 small in
    let part = (load_keeps n c x ws e p.state some k.rings.sided g unsent untaken q m j due inside.0 small).1 in
    let named : newest e.got ≡ last = newest_is e.got _ last (pk_is n c x ws e p.state some k.rings.sided g unsent untaken q m j due inside.0 small) in
    let read : word_in (words_of n) ws q j ≡ v = yes_is (ltb j 512) _ _ (grind (arith, nat_tests, small)) in
    let d : PageCall = call_fed (LoadWords q m j) in
    let kept : with_call d (page_loaded e.pages last (word_in (words_of n) ws q j)) ≡ with_call d (page_loaded (with_call (LoadWords q m j) e.pages) (newest e.got) v) =
    (λ i. with_call d (page_loaded e.pages (sym named i) (read i))) ∙ sym (load_called (LoadWords q m j) d e.pages (newest e.got) v) in
    record {
      rings = counted_aside n x (ring_words n ws) u p _ _ k.rings;
      pages = λ _. subst (λ (z : Kept). PagesPart n c ws x (with_pages e z) p.state) kept (part_called n c x ws e p.state _ d part);
      count = fed_count (LoadWords q m j) (with_call (LoadWords q m j) e.pages) (newest e.got) v ∙ k.count;
      loads = λ _. load_loading (with_call (LoadWords q m j) e.pages) q m j (newest e.got) v due;
    }
  where
    not_clear : (d : Due) → d ≡ Loads q m j → d ≡ Clear → ⊥
    not_clear d a b = cc

-- a step of a page call
abbrev pub the_op : Option Op → Op
the_op None = Raise Guest
the_op (Some op) = op

page_known : (n c : ℕ) (x : Side) (ws : List ℕ) (u p : Told) (d : PageCall) (op : Op) → Known n c x ws u p → is_call_of c d ≡ true → ContinuesPage u.state d → page_op d ≡ Some op
    → Known n c x (written n op ws) (told_page u d (answer_in n op ws)) p
page_known n c x ws u p Off op k h go e = absurd (cc)
page_known n c x ws u p (StoreWord q w v) op k h go e =
    subst (λ (o : Op). Known n c x (written n o ws) (told_page u (StoreWord q w v) (answer_in n o ws)) p) (ap the_op e) (store_known n c x ws u p q w v k h go)
page_known n c x ws u p (LoadWords q m j) op k h go e =
    subst (λ (o : Op). Known n c x (written n o ws) (told_page u (LoadWords q m j) (answer_in n o ws)) p) (ap the_op e) (load_known n c x ws u p q m j k h go)

-- what a step is: one of the rings where a call of theirs is under way, and else one of a page call of this channel
pub record Goes (c : ℕ) (k : Making) (op : Op) : Type 0 where
  pub goes_on : GoesOn (is_busy_at k.machine.stage) k.told.state k.machine k.call k.packet
  pub call : is_call_of c k.call ≡ true
  pub idle : is_busy_at k.machine.stage ≡ false → k.machine.stage ≡ Idle
  pub ring : is_busy_at k.machine.stage ≡ true → next_of k.machine k.packet ≡ Some op
  pub page : is_busy_at k.machine.stage ≡ false → page_op k.call ≡ Some op

-- what is told after a step, by what is under way
pub at_told : (P : Told → Type 0) (b : Bool) (u : Told) (m : EndMachine) (d : PageCall) (p : List ℕ) (v : ℕ) → (b ≡ true → P (told_next (told_at u m p) v)) → (b ≡ false → P (told_page u d v)) → P (told_step b u m d p v)
at_told P true u m d p v t f = t refl
at_told P false u m d p v t f = f refl

pub made_known : (n c : ℕ) (x : Side) (ws : List ℕ) (k : Making) (p : Told) (op : Op) → Known n c x ws k.told p → Goes c k op → Known n c x (written n op ws) (made k (answer_in n op ws)) p × ((fed k.machine (answer_in n op ws)).stage ≢ Stopped)
made_known n c x ws k p op known g =
    at_told (λ (t : Told). Known n c x (written n op ws) t p × ((fed k.machine (answer_in n op ws)).stage ≢ Stopped)) (is_busy_at k.machine.stage) k.told k.machine k.call k.packet (answer_in n op ws)
    (λ e.
    let f = next_known n c x ws (told_at k.told k.machine k.packet) p (at_known n c x ws k.told p known k.machine k.packet (ring_went _ k.told.state k.machine k.call k.packet e g.goes_on)) op (g.ring e) in
    (f, f.rings.sided.mine.goes))
    (λ e.
    let rests : (fed k.machine (answer_in n op ws)).stage ≡ Idle = ap (λ (st : Stage). (fed_at st k.machine (answer_in n op ws)).stage) (g.idle e) ∙ g.idle e in
    (page_known n c x ws k.told p k.call op known g.call (subst (λ (b : Bool). GoesOn b k.told.state k.machine k.call k.packet) e g.goes_on) (g.page e), λ z. (let w : Idle ≡ Stopped = sym rests ∙ z in (cc))))
