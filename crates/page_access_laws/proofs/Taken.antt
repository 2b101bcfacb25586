-- What the loads of a take make of the pages of an end, and of the packets that it got.
use Rattle.std.proofs.Common.{◌≡◌, ℕ, ◌+◌, ◌<◌, ◌≤◌, ◌/◌, ◌%◌, ◌==◌, Bool, true, false, ◌&&◌, ◌||◌, cond, leb, ltb, List, [], ◌∷◌, ◌++◌, length, refl, sym, ap, ◌∙◌, arith}
use Rattle.std.proofs.lemmas.Bool.Decides.{nat_tests}
use Rattle.page_kept.specs.Kept.{pages_took}
use Rattle.page_kept.specs.Layouts.{layout}
use Rattle.ring_machine.specs.declared.machine.EndMachine.{EndMachine}
use Rattle.ring_machine.specs.declared.machine.Ending.TheVariants.{BadIndex, BadLength, BadOffset, Empty, Took}
use Rattle.ring_machine.specs.declared.machine.Stage.TheVariants.{TakeFirst, TakeCell}
use Rattle.ring_machine.specs.declared.place.Ring.{Ring}
use Rattle.ring_machine.specs.declared.state.EndState.{EndState}
use Rattle.ring_machine.specs.Places.{ahead, cell_of, is_index, len8_of, low, offset8_of, used}
use Rattle.ring_machine.specs.States.{after, afters, copied_after, entered, got_after, pages_after}
use Rattle.ring_machine.specs.Steps.{breaks, ends, fed, take_begun}
use Rattle.ring_call_plan.specs.declared.end.PlanEnd.{PlanEnd}
use Rattle.ring_call_plan.specs.Numbers.{head_end, head_planned, head_says, take_at, take_end, take_plan_of, take_says}
use Rattle.ring_call_plan.specs.Plans.{TakeBegun, TakeEnded, said}
use Rattle.ring_call_plan.specs.Shown.{Shows}
use Rattle.ring_call_plan.proofs.Parts.{apart, false_is, true_is}
use Rattle.ring_call_plan.proofs.Takes.{begun_as, ended_as}
use Rattle.ring_call_plan_laws.specs.Accesses.{Access, answers, loads_after}
use Rattle.page_access_laws.specs.Calls.{taken_of}

-- a take whose next load is that of the first word
abbrev waiting : EndMachine → ℕ → EndMachine
waiting m v = record (take_begun m) { stage = TakeFirst; seen = cell_of v; done = 0 }

-- and one that has loaded j words of a packet whose first word is h
abbrev copying : EndMachine → ℕ → ℕ → EndMachine
copying m h j = record m { stage = TakeCell; len = len8_of h; done = j }

waits_by : (a b : Bool) (m : EndMachine) (v : ℕ)
    → 19 ≡ said (cond a (cond b (record (ends (take_begun m) Empty) { drained = m.drained || m.peer_marked }) (waiting m v)) (breaks (take_begun m) BadIndex (low v)))
    → cond a (cond b (record (ends (take_begun m) Empty) { drained = m.drained || m.peer_marked }) (waiting m v)) (breaks (take_begun m) BadIndex (low v)) ≡ waiting m v
waits_by true false m v h = refl
waits_by _ _ m v h = absurd (cc)

copies_by : (a b : Bool) (m : EndMachine) (h i : ℕ)
    → 19 ≡ said (cond a (cond b (copying m h 1) (breaks m BadOffset i)) (breaks m BadLength i))
    → cond a (cond b (copying m h 1) (breaks m BadOffset i)) (breaks m BadLength i) ≡ copying m h 1
copies_by true true m h i e = refl
copies_by _ _ m h i e = absurd (cc)

module _ (e : PlanEnd) (m : EndMachine) (v : ℕ) (s : Shows e m) (says : take_says e v ≡ 19) where
  tb : TakeBegun m v (take_says e v) (take_end e v) (take_at e v 0)
  tb = begun_as e v 0 (take_says e v) (take_end e v) (take_at e v 0) refl refl refl m s (λ z. apart 0 19 refl (sym z ∙ says))

  -- a take that is planned waits for the first word
  pub first_waits : fed (take_begun m) v ≡ waiting m v
  first_waits = waits_by (is_index m.cells v) (cell_of v == m.read) m v (sym says ∙ tb.says)

  -- and once that is right, it copies the others
  pub rest_copies : (h : ℕ) → head_says (take_end e v) h ≡ 19 → fed (fed (take_begun m) v) h ≡ copying (waiting m v) h 1
  rest_copies h one =
      let r : PlanEnd = take_end e v in
      let te : TakeEnded (fed (take_begun m) v) h (head_says r h) (head_end r h) (head_planned r h (take_plan_of r h)) =
      ended_as r h (take_plan_of r h) (head_says r h) (head_end r h) (head_planned r h (take_plan_of r h)) refl refl refl (fed (take_begun m) v) tb.shows (λ z. apart 0 19 refl (sym z ∙ one)) in
      let is : 19 ≡ said (fed (waiting m v) h) = sym one ∙ te.says ∙ ap (λ (k : EndMachine). said (fed k h)) first_waits in
      ap (λ (k : EndMachine). fed k h) first_waits
      ∙ copies_by (leb 2 (len8_of h) && ltb (len8_of h) (used m.cells m.read (cell_of v))) (leb 2 (offset8_of h) && leb (offset8_of h) (len8_of h)) (waiting m v) h (h / 65536 % 4294967296) is

-- The loads of the other words. So far none of the pages, and no packet, is changed
record Copies (t u : EndState) (m : EndMachine) (h : ℕ) (ws : List ℕ) : Type 0 where
  machine : u.machine ≡ copying m h (length ws + 1)
  copied : u.copied ≡ taken_of h ws
  pages : u.pages ≡ t.pages
  got : u.got ≡ t.got

module _ (t : EndState) (m : EndMachine) (h : ℕ) (at : t.machine ≡ copying m h 1) (copied : t.copied ≡ h ∷ []) where
  -- the machine after one load more, where that isn't the last one
  goes_on : (j v : ℕ) → j + 1 < len8_of h → fed (copying m h j) v ≡ copying m h (j + 1)
  goes_on j v less = true_is (ltb (j + 1) (len8_of h)) (copying m h (j + 1)) (record (ends (copying m h j) Took) { read = ahead m.cells m.read (len8_of h + 1); words = len8_of h }) (grind (arith, nat_tests, less))

  copies : (ws : List ℕ) → length ws + 1 < len8_of h → Copies t (afters t ws) m h ws
  copies [] less = record { machine = at; copied = copied; pages = refl; got = refl }
  copies (v ∷ ws) less =
      let u : EndState = afters t ws in
      let c = copies ws (omega (arith, less)) in
      let j : ℕ = length ws + 1 in
      let more : j + 1 < len8_of h = omega (arith, less) in
      let on : fed u.machine v ≡ copying m h (j + 1) = ap (λ (k : EndMachine). fed k v) c.machine ∙ goes_on j v more in
      let test : ltb (j + 1) (len8_of h) ≡ true = grind (arith, nat_tests, more) in
      record {
        machine = on ∙ ap (copying m h) (omega arith);
        copied = (λ i. copied_after (c.machine i).stage (on i) (c.copied i) v);
        pages = (λ i. pages_after (c.machine i).stage (c.machine i) (c.pages i) u.packet u.copied v) ∙ true_is (ltb (j + 1) (len8_of h)) t.pages (pages_took (layout t.pages.count) t.pages (u.copied ++ v ∷ [])) test;
        got = (λ i. got_after (c.machine i).stage (c.machine i) (c.got i) u.copied v) ∙ true_is (ltb (j + 1) (len8_of h)) t.got (t.got ++ (u.copied ++ v ∷ []) ∷ []) test;
      }

  -- the last load takes the packet
  pub takes_all : (ws : List ℕ) → 2 ≤ len8_of h → length ws + 1 ≡ len8_of h → ((afters t ws).pages ≡ pages_took (layout t.pages.count) t.pages (taken_of h ws)) × ((afters t ws).got ≡ t.got ++ taken_of h ws ∷ [])
  takes_all [] two all = absurd (omega (arith, two, all))
  takes_all (v ∷ ws) two all =
      let u : EndState = afters t ws in
      let c = copies ws (omega (arith, all)) in
      let j : ℕ = length ws + 1 in
      let last : j + 1 ≡ len8_of h = omega (arith, all) in
      let test : ltb (j + 1) (len8_of h) ≡ false = grind (arith, nat_tests, last) in (
        (λ i. pages_after (c.machine i).stage (c.machine i) (c.pages i) u.packet (c.copied i) v) ∙ false_is (ltb (j + 1) (len8_of h)) t.pages (pages_took (layout t.pages.count) t.pages (taken_of h ws ++ v ∷ [])) test,
        (λ i. got_after (c.machine i).stage (c.machine i) (c.got i) (c.copied i) v) ∙ false_is (ltb (j + 1) (len8_of h)) t.got (t.got ++ (taken_of h ws ++ v ∷ []) ∷ []) test,
      )

-- the states after the loads
pub loads_on_is : (s : EndState) (before : List Access) (r : Ring) (at first : ℕ) (ws : List ℕ) → afters s (answers (loads_after before r at first ws)) ≡ afters (afters s (answers before)) ws
loads_on_is s before r at first [] = refl
loads_on_is s before r at first (v ∷ ws) = ap (λ (t : EndState). after t v) (loads_on_is s before r at first ws)

-- the state of a take that has loaded the write index, and the first word
pub first_same : (s : EndState) (v : ℕ) → ((afters (entered s (take_begun s.machine) []) (v ∷ [])).pages ≡ s.pages) × ((afters (entered s (take_begun s.machine) []) (v ∷ [])).got ≡ s.got)
first_same s v = (refl, refl)

module _ (e : PlanEnd) (s : EndState) (v h : ℕ) (shows : Shows e s.machine) (says : take_says e v ≡ 19) where
  abbrev t : EndState
  t = afters (entered s (take_begun s.machine) []) (h ∷ v ∷ [])

  at_first : fed (take_begun s.machine) v ≡ waiting s.machine v
  at_first = first_waits e s.machine v shows says

  pub head_same : (t.pages ≡ s.pages) × (t.got ≡ s.got)
  head_same = (
    (λ i. pages_after (at_first i).stage (at_first i) s.pages (afters (entered s (take_begun s.machine) []) (v ∷ [])).packet [] h),
    (λ i. got_after (at_first i).stage (at_first i) s.got [] h),
  )

  pub head_took : (ws : List ℕ) → head_says (take_end e v) h ≡ 19 → 2 ≤ len8_of h → length ws + 1 ≡ len8_of h → ((afters t ws).pages ≡ pages_took (layout s.pages.count) s.pages (taken_of h ws)) × ((afters t ws).got ≡ s.got ++ taken_of h ws ∷ [])
  head_took ws one two all =
      let on : t.machine ≡ copying (waiting s.machine v) h 1 = rest_copies e s.machine v shows says h one in
      let copied : t.copied ≡ h ∷ [] = (λ i. copied_after (at_first i).stage (on i) [] h) in
      let r = takes_all t (waiting s.machine v) h on copied ws two all in (
        r.0 ∙ (λ i. pages_took (layout (head_same.0 i).count) (head_same.0 i) (taken_of h ws)),
        r.1 ∙ ap (λ (g : List (List ℕ)). g ++ taken_of h ws ∷ []) head_same.1,
      )
