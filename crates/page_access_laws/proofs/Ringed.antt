-- Whole calls of the rings by an end with data pages.
use Rattle.std.proofs.Common.{◌≡◌, ◌≢◌, inl, inr, ℕ, ◌+◌, ◌*◌, ◌%◌, ◌≤◌, ◌==◌, Bool, true, false, ◌&&◌, cond, eqb, leb, ltb, List, [], ◌∷◌, ◌++◌, length, Option, Some, None, refl, sym, ap, ◌∙◌, subst, arith}
use Rattle.std.specs.Prelude.{slice_index}
use Rattle.std.proofs.lemmas.Bool.Decides.{nat_tests}
use Rattle.io_edge.specs.declared.side.Side.{Side}
use Rattle.page_kept.specs.declared.kept.Kept.{Kept}
use Rattle.pkt_desc.specs.Packets.{id_of}
use Rattle.page_kept.specs.Keepers.{asked, back}
use Rattle.page_kept.specs.declared.page_call.PageCall.TheVariants.{Off}
use Rattle.page_kept.specs.Kept.{pages_sent, pages_took}
use Rattle.page_kept.specs.Layouts.{Loan, layout}
use Rattle.ring_machine.specs.declared.machine.EndMachine.{EndMachine}
use Rattle.ring_machine.specs.declared.place.Place.TheVariants.{Cell, Feature, Mark, Mask, Pending, Read, Write}
use Rattle.ring_machine.specs.declared.place.Op.TheVariants.{Store, TakeSignal}
use Rattle.ring_machine.specs.declared.state.EndState.{EndState}
use Rattle.ring_machine.specs.Places.{cell_of, in_of, is_index, len8_of, offset8_of, out_of, peer_of}
use Rattle.ring_machine.specs.States.{after, afters, entered, Begins}
use Rattle.ring_machine.specs.Steps.{is_busy_at, next_of, send_begun, take_begun}
use Rattle.ring_call_plan.specs.declared.end.PlanEnd.{PlanEnd as RingEnd}
use Rattle.ring_call_plan.specs.Answers.{found_work, found_work_room, woke, woke_room}
use Rattle.ring_call_plan.specs.Numbers.{armed_says, arm_end, commit_end, commit_index, given_says, has_length, has_offset, has_room, head_says, is_at, is_formed, polled_says, send_end, send_plan_of, sent_says, take_at, take_end, take_plan_of, take_says}
use Rattle.ring_call_plan.specs.Shown.{feds}
use Rattle.ring_call_plan.specs.Shown.{Shows as RingShows}
use Rattle.ring_call_plan.proofs.Parts.{asleep_at, state_is}
use Rattle.ring_call_plan.proofs.PlanLaws.{feeds_state}
use Rattle.ring_call_plan_laws.specs.Accesses.{Access, AreStepsFrom, answers, loaded, loads_after, made}
use Rattle.ring_call_plan_laws.specs.Whole.{PlanCall, SendCall, TakeCall, CommitCall, ArmCall, PollCall, MarkCall, IsHeard, accesses, answer_of, arm_looks, arm_stores, begins_as, begun_by, end_of, packet_by, raise_after, send_stores, wakes_after}
use Rattle.ring_call_plan_laws.proofs.Walks.{Walk, steps_from, true_by}
use Rattle.ring_call_plan_laws.proofs.Wholes.{walks}
use Rattle.page_call_plan.specs.declared.end.PageEnd.{PageEnd}
use Rattle.page_call_plan.specs.Answers.{page_due, planned, took}
use Rattle.page_call_plan.specs.Causes.{AllFit, TookAnswer, NoPage, PageCame}
use Rattle.page_call_plan.specs.Ends.{asks_took, end_at, end_due, took_says}
use Rattle.page_call_plan.specs.Shown.{IsExact, Shows, part_of}
use Rattle.page_call_plan.specs.Slots.{is_packet, part_took}
use Rattle.page_call_plan.proofs.Causing.{took_answers}
use Rattle.page_call_plan.proofs.Fitting.{sent_fit, took_fit}
use Rattle.page_call_plan.proofs.Showing.{call_due, call_took, ids_due, ids_took, sends_exact, sends_show, takes_exact, takes_open, takes_show}
use Rattle.page_call_plan_laws.proofs.Calls.{begins_arm, begins_commit, begins_mark, begins_send, begins_take}
use Rattle.page_access_laws.specs.Calls.{IsExactIn, BacksAsked, PagedEnd, IsShown, RingCall, PagesLet, IsPagedCall, AreAllowed, after_all, of_ring, ring_left, sent_end, taken_of, took_end, with_ring}
use Rattle.page_access_laws.proofs.Made.{Makes, clear_after, makes, send_makes, sent_call, side_after, took_call}
use Rattle.page_access_laws.proofs.Taken.{first_same, head_same, head_took, loads_on_is}

-- accesses of the rings alone are those of the state
pub ring_after : (s : EndState) (acts : List Access) → after_all s (of_ring acts) ≡ afters s (answers acts)
ring_after s [] = refl
ring_after s (a ∷ acts) = ap (λ (t : EndState). after t a.gave) (ring_after s acts)

ring_allowed : (s : EndState) (acts : List Access) → AreStepsFrom s acts → AreAllowed s (of_ring acts)
ring_allowed s [] h = tt
ring_allowed s (a ∷ acts) h = (ap (λ (t : EndState). next_of t.machine t.packet) (ring_after s acts) ∙ h.0, ring_allowed s acts h.1)

-- what the calls that touch no page make of the pages
raise_makes : (p : List ℕ) (k : Kept) (y : Side) (b : Bool) (acts : List Access) → Makes p k acts k → Makes p k (raise_after y b acts) k
raise_makes p k y true acts h = ((refl, h.0), h.1)
raise_makes p k y false acts h = h

looks_make : (p : List ℕ) (k : Kept) (y : Side) (f q v i : ℕ) (b c : Bool) →
    Makes p k (cond b (cond c (loaded (Pending (in_of y)) q ∷ loaded (Feature (in_of y)) f ∷ made (Store (Read (in_of y)) i) ∷ []) (loaded (Write (in_of y)) v ∷ loaded (Pending (in_of y)) q ∷ loaded (Feature (in_of y)) f ∷ made (Store (Read (in_of y)) i) ∷ [])) (loaded (Feature (in_of y)) f ∷ made (Store (Read (in_of y)) i) ∷ [])) k
looks_make p k y f q v i true true = ((refl, (refl, (refl, tt))), refl)
looks_make p k y f q v i true false = ((refl, (refl, (refl, (refl, tt)))), refl)
looks_make p k y f q v i false c = ((refl, (refl, tt)), refl)

wakes_make : (p : List ℕ) (k : Kept) (y : Side) (plain room a : ℕ) (acts : List Access) → Makes p k acts k → Makes p k (wakes_after y plain room a acts) k
wakes_make p k y plain room a acts h = by_tests (a == room) (a == plain)
  where
    by_tests : (b c : Bool) → Makes p k (cond b (made (Store (Pending (out_of y)) 0) ∷ made (Store (Mask (in_of y)) 1) ∷ acts) (cond c (made (Store (Mask (in_of y)) 1) ∷ acts) acts)) k
    by_tests true c = ((refl, (refl, h.0)), h.1)
    by_tests false true = ((refl, h.0), h.1)
    by_tests false false = h

arm_stores_make : (p : List ℕ) (k : Kept) (y : Side) (want : ℕ) → Makes p k (arm_stores y want) k
arm_stores_make p k y want = by_want (want == 0)
  where
    by_want : (b : Bool) → Makes p k (cond b (made (Store (Mask (in_of y)) 0) ∷ []) (made (Store (Mask (in_of y)) 0) ∷ made (Store (Pending (out_of y)) want) ∷ [])) k
    by_want true = ((refl, tt), refl)
    by_want false = ((refl, (refl, tt)), refl)

arm_looks_make : (p : List ℕ) (k : Kept) (y : Side) (e : RingEnd) (w r i : ℕ) (acts : List Access) → Makes p k acts k → Makes p k (arm_looks y e w r i acts) k
arm_looks_make p k y e w r i acts h = by_tests (w == 8 * e.read) (e.want == 0) (has_room e r)
  where
    by_tests : (a b c : Bool) → Makes p k (cond a (cond b (loaded (Mark (peer_of y)) i ∷ loaded (Write (in_of y)) w ∷ acts) (cond c (loaded (Read (out_of y)) r ∷ loaded (Write (in_of y)) w ∷ acts) (loaded (Mark (peer_of y)) i ∷ loaded (Read (out_of y)) r ∷ loaded (Write (in_of y)) w ∷ acts))) (loaded (Write (in_of y)) w ∷ acts)) k
    by_tests true true c = ((refl, (refl, h.0)), h.1)
    by_tests true false true = ((refl, (refl, h.0)), h.1)
    by_tests true false false = ((refl, (refl, (refl, h.0))), h.1)
    by_tests false b c = ((refl, h.0), h.1)

-- a packet that the ring gave is one
packet_form : (h : ℕ) (ws : List ℕ) → (slice_index (taken_of h ws) 0 ≡ h) × (length (taken_of h ws) ≡ length ws + 1)
packet_form h [] = (refl, refl)
packet_form h (v ∷ ws) = let r = packet_form h ws in (first_of (taken_of h ws) v r.1 ∙ r.0, (let l = long (taken_of h ws) v in let z = r.1 in omega (arith, l, z)))
  where
    long : (xs : List ℕ) (v : ℕ) → length (xs ++ v ∷ []) ≡ length xs + 1
    long [] v = refl
    long (x ∷ xs) v = let l = long xs v in omega (arith, l)

    first_of : (xs : List ℕ) (v : ℕ) → length xs ≡ length ws + 1 → slice_index (xs ++ v ∷ []) 0 ≡ slice_index xs 0
    first_of [] v l = absurd (omega (arith, l))
    first_of (x ∷ xs) v l = refl

packet_by_parts : (p : List ℕ) → 2 ≤ length p → len8_of (slice_index p 0) ≡ length p → 2 ≤ offset8_of (slice_index p 0) → offset8_of (slice_index p 0) ≤ len8_of (slice_index p 0) → is_packet p ≡ true
packet_by_parts p two size past inside = grind (arith, nat_tests, two, size, past, inside)

-- what a planned head has
head_parts : (a b c : Bool) → cond a (cond b (cond {A = ℕ} c 19 9) 8) 0 ≡ 19 → (b ≡ true) × (c ≡ true)
head_parts true true true h = (refl, refl)
head_parts _ _ _ h = absurd (cc)

two_words : (h n : ℕ) → (leb 2 (len8_of h) && ltb (len8_of h) n) ≡ true → 2 ≤ len8_of h
two_words h n t = grind (arith, nat_tests, t)

offset_in : (h : ℕ) → has_offset h ≡ true → (2 ≤ offset8_of h) × (offset8_of h ≤ len8_of h)
offset_in h t = ((grind (arith, nat_tests, t)), (grind (arith, nat_tests, t)))

-- a refusal isn't a take
not_first : (a b c : Bool) → (cond a (cond b (cond {A = ℕ} c 6 19) 7) 0 == 19) ≡ false → (cond a (cond b (cond {A = ℕ} c 6 19) 7) 0 == 5) ≡ false
not_first true true false h = absurd (cc)
not_first _ _ _ h = refl

not_head : (a b c : Bool) → (cond a (cond b (cond {A = ℕ} c 19 9) 8) 0 == 19) ≡ false → (cond a (cond b (cond {A = ℕ} c 19 9) 8) 0 == 5) ≡ false
not_head true true true h = absurd (cc)
not_head _ _ _ h = refl

no_state : (o : Option Loan) → (end_due o).state ≡ 0
no_state None = refl
no_state (Some a) = refl

module _ (s : EndState) (z : PagedEnd) (sh : IsShown z s) where
  abbrev y : Side
  y = s.machine.side

  begins_all : (c : PlanCall) → PagesLet z c → begins_as z.ring c ≢ 0 → IsHeard z.ring c → Begins s (begun_by s.machine c) (packet_by c)
  begins_all (SendCall p v x w) lets used heard = begins_send z.ring s z.pages z.slots z.asks z.owed sh.ring sh.copied sh.call sh.pages p 0 v lets used heard.0
  begins_all (TakeCall v h ws) lets used heard = begins_take z.ring s z.pages z.slots z.asks z.owed sh.ring sh.copied sh.call sh.pages v lets used
  begins_all (CommitCall f q v) lets used heard = begins_commit z.ring s z.pages z.slots z.asks z.owed sh.ring sh.copied sh.call sh.pages lets used
  begins_all (ArmCall want w r k) lets used heard = begins_arm z.ring s z.pages z.slots z.asks z.owed sh.ring sh.copied sh.call sh.pages want lets used
  begins_all (PollCall v) lets used heard =
      let six : z.ring.state ≡ 6 = (state_is z.ring 6 (is_formed z.ring) (true_by (is_at 6 z.ring) (cond (v == 0) 14 (cond (z.ring.want == 0) 15 21)) used)).0 in
      ((sh.copied, sh.call), inr (inr (inr (inr (inl (refl, refl, asleep_at s.machine.stage s.machine (sh.ring.state ∙ six), sh.ring.asleep ∙ ap (λ (x : ℕ). eqb x 6) six))))))
  begins_all MarkCall lets used heard = begins_mark z.ring s z.pages z.slots z.asks z.owed sh.ring sh.copied sh.call sh.pages lets used

  -- what is left of a call: its pages, its packets and its numbers
  record Leaves (c : PlanCall) (r : PagedEnd) : Type 0 where
    kept : Kept
    got : List (List ℕ)
    pages_are : (afters (entered s (begun_by s.machine c) (packet_by c)) (answers (accesses y z.ring c))).pages ≡ kept
    got_is : (afters (entered s (begun_by s.machine c) (packet_by c)) (answers (accesses y z.ring c))).got ≡ got
    ring : r.ring ≡ end_of z.ring c
    shows : Shows y got kept r.pages r.slots r.asks r.owed
    idle : r.pages.state ≡ 0
    call : kept.call ≡ Off
    fit : AllFit r.slots
    exact : IsExact y s.got s.pages z.asks → ((t : ℕ) → back t (part_of y got kept) ≤ asked t (part_of y got kept)) → IsExact y got kept r.asks

  side_begun : (c : PlanCall) → (begun_by s.machine c).side ≡ y
  side_begun MarkCall = refl
  side_begun _ = refl

  -- a call of the rings, whose accesses are steps, is one with these pages
  whole : (c : PlanCall) → Begins s (begun_by s.machine c) (packet_by c) → Walk (begun_by s.machine c) (packet_by c) (accesses y z.ring c) (end_of z.ring c) (answer_of z.ring c) → Leaves c (ring_left z c) → IsPagedCall s z (RingCall c)
  whole c begins walk l =
      let base : EndState = entered s (begun_by s.machine c) (packet_by c) in
      let acts : List Access = accesses y z.ring c in
      let t : EndState = afters base (answers acts) in
      let same : t.machine ≡ feds base.machine (answers acts) = feeds_state base (answers acts) in
      let over : is_busy_at t.machine.stage ≡ false = ap (λ (k : EndMachine). is_busy_at k.stage) same ∙ walk.over in
      let side : t.machine.side ≡ y = side_after base (answers acts) ∙ side_begun c in
      record {
        begins = begins;
        steps = ring_allowed base acts (steps_from base acts walk.steps);
        shows = subst (IsShown (ring_left z c)) (sym (ring_after base acts)) record {
          ring = subst (λ (r : RingEnd). RingShows r t.machine) (sym l.ring) (subst (RingShows (end_of z.ring c)) (sym same) walk.shows);
          pages = subst (λ (u : Side × List (List ℕ) × Kept). Shows u.0 u.1 u.2 (ring_left z c).pages (ring_left z c).slots (ring_left z c).asks (ring_left z c).owed) (λ i. (sym side i, sym l.got_is i, sym l.pages_are i)) l.shows;
          between = over;
          idle = l.idle;
          copied = clear_after base (answers acts) sh.copied over;
          call = ap (λ (k : Kept). k.call) l.pages_are ∙ l.call;
          fit = l.fit;
        };
        exact = subst (λ (u : EndState). IsExactIn s z.asks → BacksAsked u → IsExactIn u (ring_left z c).asks) (sym (ring_after base acts))
            (subst (λ (u : Side × List (List ℕ) × Kept). IsExactIn s z.asks → ((i : ℕ) → back i (part_of u.0 u.1 u.2) ≤ asked i (part_of u.0 u.1 u.2)) → IsExact u.0 u.1 u.2 (ring_left z c).asks) (λ i. (sym side i, sym l.got_is i, sym l.pages_are i)) l.exact);
      }

  -- the numbers of the pages stay, at this state of a page call
  numbered : (k : ℕ) → Shows y s.got s.pages (end_at k z.pages) z.slots z.asks z.owed
  numbered k = record { count = sh.pages.count; owners = sh.pages.owners; due = sh.pages.due; asks_of = sh.pages.asks_of; owed_of = sh.pages.owed_of }

  -- a call that changes no page, and gets no packet
  same_left : (c : PlanCall) → (afters (entered s (begun_by s.machine c) (packet_by c)) (answers (accesses y z.ring c))).pages ≡ s.pages → (afters (entered s (begun_by s.machine c) (packet_by c)) (answers (accesses y z.ring c))).got ≡ s.got
      → (e : PageEnd) → e.state ≡ 0 → Shows y s.got s.pages e z.slots z.asks z.owed → Leaves c (with_ring (end_of z.ring c) e z)
  same_left c pages got e idle shows = record { kept = s.pages; got = s.got; pages_are = pages; got_is = got; ring = refl; shows = shows; idle = idle; call = sh.call; fit = sh.fit; exact = λ x most. x }

  -- a call that touches no page
  still : (c : PlanCall) → AreStepsFrom (entered s (begun_by s.machine c) (packet_by c)) (accesses y z.ring c) → Makes (packet_by c) s.pages (accesses y z.ring c) s.pages → (e : PageEnd) → e.state ≡ 0 → Shows y s.got s.pages e z.slots z.asks z.owed
      → Leaves c (with_ring (end_of z.ring c) e z)
  still c steps h e idle shows =
      let m = makes (entered s (begun_by s.machine c) (packet_by c)) (accesses y z.ring c) steps h.0 in
      same_left c (m.0 ∙ h.1) m.1 e idle shows

  -- a send
  module _ (p : List ℕ) (v x w : ℕ) (lets : PagesLet z (SendCall p v x w)) (steps : AreStepsFrom (entered s (send_begun s.machine (length p)) p) (accesses y z.ring (SendCall p v x w))) where
    abbrev k : ℕ
    k = len8_of (slice_index p 0)

    abbrev send : PlanCall
    send = SendCall p v x w

    abbrev after_send : EndState
    after_send = afters (entered s (send_begun s.machine (length p)) p) (answers (accesses y z.ring send))

    abbrev stored : List Access
    stored = raise_after y (sent_says (send_end z.ring k v) x w == 2) (cond (x == 0) (loaded (Read (out_of y)) w ∷ loaded (Mask (out_of y)) x ∷ send_stores y (send_plan_of z.ring k) p v) (loaded (Mask (out_of y)) x ∷ send_stores y (send_plan_of z.ring k) p v))

    send_makes_by : (b : Bool) → Makes p s.pages (cond b stored (loaded (Read (out_of y)) v ∷ [])) (cond b (pages_sent (layout s.pages.count) s.pages p) s.pages)
    send_makes_by true = send_makes p s.pages y (send_plan_of z.ring k) v x w (sent_says (send_end z.ring k v) x w == 2) (x == 0)
    send_makes_by false = ((refl, tt), refl)

    sent_pages : (after_send.pages ≡ cond (begins_as z.ring send == planned) (pages_sent (layout s.pages.count) s.pages p) s.pages) × (after_send.got ≡ s.got)
    sent_pages =
        let m = send_makes_by (begins_as z.ring send == planned) in
        let r = makes (entered s (send_begun s.machine (length p)) p) (accesses y z.ring send) steps m.0 in
        (r.0 ∙ m.1, r.1)

    sends_by : (b : Bool) → (begins_as z.ring send == planned) ≡ b → Leaves send (cond b (sent_end (end_of z.ring send) p z) (with_ring (end_of z.ring send) (end_at 0 z.pages) z))
    sends_by true h = record {
      kept = pages_sent (layout s.pages.count) s.pages p;
      got = s.got;
      pages_are = sent_pages.0 ∙ ap (λ (b : Bool). cond b (pages_sent (layout s.pages.count) s.pages p) s.pages) h;
      got_is = sent_pages.1;
      ring = refl;
      shows = sends_show y s.got s.pages z.pages z.slots z.asks z.owed sh.pages 0 p lets;
      idle = refl;
      call = sent_call (layout s.pages.count) s.pages p ∙ sh.call;
      fit = sent_fit z.slots p sh.fit;
      exact = λ e most. sends_exact y s.got s.pages z.pages z.slots z.asks z.owed sh.pages 0 p lets e;
    }
    sends_by false h = same_left send (sent_pages.0 ∙ ap (λ (b : Bool). cond b (pages_sent (layout s.pages.count) s.pages p) s.pages) h) sent_pages.1 (end_at 0 z.pages) refl (numbered 0)

    sends : Leaves send (ring_left z send)
    sends = sends_by (begins_as z.ring send == planned) refl

  -- a take
  module _ (v h : ℕ) (ws : List ℕ) (lets : PagesLet z (TakeCall v h ws)) (heard : IsHeard z.ring (TakeCall v h ws)) where
    abbrev take : PlanCall
    take = TakeCall v h ws

    abbrev base : EndState
    base = entered s (take_begun s.machine) []

    abbrev p : List ℕ
    p = taken_of h ws

    abbrev two : List Access
    two = loaded (Cell (in_of y) (take_at z.ring v 0)) h ∷ loaded (Write (in_of y)) v ∷ []

    -- none was taken
    none_took : (acts : List Access) → accesses y z.ring take ≡ acts → (answer_of z.ring take == took) ≡ false → (afters base (answers acts)).pages ≡ s.pages → (afters base (answers acts)).got ≡ s.got → Leaves take (ring_left z take)
    none_took acts is other pages got =
        subst (λ (b : Bool). Leaves take (cond b (took_end (end_of z.ring take) p z) (with_ring (end_of z.ring take) (end_at 0 z.pages) z))) (sym other)
        (same_left take (ap (λ (a : List Access). (afters base (answers a)).pages) is ∙ pages) (ap (λ (a : List Access). (afters base (answers a)).got) is ∙ got) (end_at 0 z.pages) refl (numbered 0))

    -- one was taken
    it_took : take_says z.ring v ≡ 19 → head_says (take_end z.ring v) h ≡ 19 → (answer_of z.ring take == took) ≡ true → accesses y z.ring take ≡ loads_after two (in_of y) (take_plan_of (take_end z.ring v) h).at (take_plan_of (take_end z.ring v) h).first ws
        → Leaves take (ring_left z take)
    it_took one head says is =
        let r : RingEnd = take_end z.ring v in
        let parts = head_parts (is_at 3 r) (has_length r h) (has_offset h) head in
        let two_least : 2 ≤ len8_of h = two_words h _ parts.0 in
        let inside = offset_in h parts.1 in
        let answer : answer_of z.ring take ≡ 5 = grind (arith, nat_tests, says) in
        let size : length ws + 1 ≡ len8_of h = heard answer in
        let form = packet_form h ws in
        let first : len8_of (slice_index p 0) ≡ len8_of h = ap len8_of form.0 in
        let place : offset8_of (slice_index p 0) ≡ offset8_of h = ap offset8_of form.0 in
        let packet : is_packet p ≡ true = packet_by_parts p (omega (arith, form.1, size, two_least)) (omega (arith, first, form.1, size)) (omega (arith, place, inside.0)) (omega (arith, place, first, inside.1)) in
        let took_all = head_took z.ring s v h sh.ring one ws head two_least size in
        let acts : List Access = accesses y z.ring take in
        let on : afters base (answers acts) ≡ afters (afters base (h ∷ v ∷ [])) ws = ap (λ (a : List Access). afters base (answers a)) is ∙ loads_on_is base two (in_of y) (take_plan_of r h).at (take_plan_of r h).first ws in
        subst (λ (b : Bool). Leaves take (cond b (took_end (end_of z.ring take) p z) (with_ring (end_of z.ring take) (end_at 0 z.pages) z))) (sym says) record {
          kept = pages_took (layout s.pages.count) s.pages p;
          got = s.got ++ p ∷ [];
          pages_are = ap (λ (t : EndState). t.pages) on ∙ took_all.0;
          got_is = ap (λ (t : EndState). t.got) on ∙ took_all.1;
          ring = refl;
          shows = shows_by (took_answers y s.got s.pages z.pages z.slots z.asks z.owed sh.pages sh.fit p lets packet);
          idle = no_state (part_took z.slots p);
          call = took_call (layout s.pages.count) s.pages p ∙ sh.call;
          fit = took_fit z.slots p sh.fit;
          exact = λ e most. exact_by e most (took_answers y s.got s.pages z.pages z.slots z.asks z.owed sh.pages sh.fit p lets packet);
        }
      where
        exact_by : IsExact y s.got s.pages z.asks → ((t : ℕ) → back t (part_of y (s.got ++ p ∷ []) (pages_took (layout s.pages.count) s.pages p)) ≤ asked t (part_of y (s.got ++ p ∷ []) (pages_took (layout s.pages.count) s.pages p)))
            → TookAnswer (pages_took (layout s.pages.count) s.pages p) (took_says (end_at 4 z.pages) z.slots z.owed p) → IsExact y (s.got ++ p ∷ []) (pages_took (layout s.pages.count) s.pages p) (asks_took z.asks p)
        exact_by e most (NoPage a d) =
            takes_exact y s.got s.pages (end_at 4 z.pages) z.slots z.asks z.owed (numbered 4) p took call_took ids_took a e (λ g. takes_open y s.got s.pages (end_at 4 z.pages) z.slots z.asks z.owed (numbered 4) p took call_took ids_took a g (most (id_of p)))
        exact_by e most (PageCame q n a d i j l) =
            takes_exact y s.got s.pages (end_at 4 z.pages) z.slots z.asks z.owed (numbered 4) p page_due call_due ids_due a e (λ g. takes_open y s.got s.pages (end_at 4 z.pages) z.slots z.asks z.owed (numbered 4) p page_due call_due ids_due a g (most (id_of p)))

        shows_by : TookAnswer (pages_took (layout s.pages.count) s.pages p) (took_says (end_at 4 z.pages) z.slots z.owed p) → Shows y (s.got ++ p ∷ []) (pages_took (layout s.pages.count) s.pages p) (took_end (end_of z.ring take) p z).pages (took_end (end_of z.ring take) p z).slots (took_end (end_of z.ring take) p z).asks (took_end (end_of z.ring take) p z).owed
        shows_by (NoPage a d) = takes_show y s.got s.pages (end_at 4 z.pages) z.slots z.asks z.owed (numbered 4) p took call_took ids_took a
        shows_by (PageCame q n a d i j l) = takes_show y s.got s.pages (end_at 4 z.pages) z.slots z.asks z.owed (numbered 4) p page_due call_due ids_due a

    abbrev first_answer : ℕ
    first_answer = take_says z.ring v

    abbrev head_answer : ℕ
    head_answer = head_says (take_end z.ring v) h

    takes : begins_as z.ring take ≢ 0 → Leaves take (ring_left z take)
    takes used = by_first (first_answer == 19) refl
      where
        by_head : (b : Bool) → (first_answer == 19) ≡ true → (head_answer == 19) ≡ b → Leaves take (ring_left z take)
        by_head true f g =
            it_took (grind (arith, nat_tests, f)) (grind (arith, nat_tests, g))
            ((λ i. cond (f i) (cond {A = ℕ} (g i) 5 head_answer) first_answer == 5))
            (λ i. cond (f i) (cond (g i) (loads_after two (in_of y) (take_plan_of (take_end z.ring v) h).at (take_plan_of (take_end z.ring v) h).first ws) two) (loaded (Write (in_of y)) v ∷ []))
        by_head false f g =
            let one : first_answer ≡ 19 = grind (arith, nat_tests, f) in
            let same = head_same z.ring s v h sh.ring one in
            none_took two (λ i. cond (f i) (cond (g i) (loads_after two (in_of y) (take_plan_of (take_end z.ring v) h).at (take_plan_of (take_end z.ring v) h).first ws) two) (loaded (Write (in_of y)) v ∷ []))
            ((λ i. cond (f i) (cond {A = ℕ} (g i) 5 head_answer) first_answer == 5) ∙ not_head (is_at 3 (take_end z.ring v)) (has_length (take_end z.ring v) h) (has_offset h) g) same.0 same.1

        by_first : (b : Bool) → (first_answer == 19) ≡ b → Leaves take (ring_left z take)
        by_first true f = by_head (head_answer == 19) f refl
        by_first false f =
            none_took (loaded (Write (in_of y)) v ∷ []) (λ i. cond (f i) (cond (head_answer == 19) (loads_after two (in_of y) (take_plan_of (take_end z.ring v) h).at (take_plan_of (take_end z.ring v) h).first ws) two) (loaded (Write (in_of y)) v ∷ []))
            ((λ i. cond (f i) (cond {A = ℕ} (head_answer == 19) 5 head_answer) first_answer == 5) ∙ not_first (is_at 0 z.ring) (is_index z.ring.cells v) (cell_of v == z.ring.read) f) (first_same s v).0 (first_same s v).1

  leaves : (c : PlanCall) → PagesLet z c → begins_as z.ring c ≢ 0 → IsHeard z.ring c → AreStepsFrom (entered s (begun_by s.machine c) (packet_by c)) (accesses y z.ring c) → Leaves c (ring_left z c)
  leaves (SendCall p v x w) lets used heard steps = sends p v x w lets steps
  leaves (TakeCall v h ws) lets used heard steps = takes v h ws lets heard used
  leaves (CommitCall f q v) lets used heard steps =
      still (CommitCall f q v) steps (raise_makes [] s.pages y (given_says (commit_end z.ring) f q v == 11) _ (looks_make [] s.pages y f q v (commit_index z.ring 0) (f % 2 == 1) (q == 0))) z.pages sh.idle sh.pages
  leaves (ArmCall want w r i) lets used heard steps =
      still (ArmCall want w r i) steps
      (wakes_make [] s.pages y found_work found_work_room (armed_says (arm_end z.ring want) w r i) (arm_looks y (arm_end z.ring want) w r i (arm_stores y want)) (arm_looks_make [] s.pages y (arm_end z.ring want) w r i (arm_stores y want) (arm_stores_make [] s.pages y want))) z.pages sh.idle sh.pages
  leaves (PollCall v) lets used heard steps = still (PollCall v) steps (wakes_make [] s.pages y woke woke_room (polled_says z.ring v) (record { op = TakeSignal y; gave = v } ∷ []) ((refl, tt), refl)) z.pages sh.idle sh.pages
  leaves MarkCall lets used heard steps = still MarkCall steps ((refl, (refl, tt)), refl) z.pages sh.idle sh.pages

  pub ring_call : (c : PlanCall) → PagesLet z c → begins_as z.ring c ≢ 0 → IsHeard z.ring c → IsPagedCall s z (RingCall c)
  ring_call c lets used heard =
      let walk = walks z.ring s.machine sh.ring c used heard in
      whole c (begins_all c lets used heard) walk (leaves c lets used heard (steps_from (entered s (begun_by s.machine c) (packet_by c)) (accesses y z.ring c) walk.steps))
