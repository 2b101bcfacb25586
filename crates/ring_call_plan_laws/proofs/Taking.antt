-- A whole take by plans.
use Rattle.std.proofs.Common.{◌≡◌, ◌≢◌, ℕ, ◌+◌, ◌<◌, ◌≤◌, ◌==◌, Bool, true, false, ◌||◌, cond, eqb, List, [], ◌∷◌, length, Some, refl, sym, ap, ◌∙◌, subst, arith}
use Rattle.std.proofs.lemmas.Bool.Decides.{nat_tests}
use Rattle.io_edge.specs.declared.side.Side.{Side}
use Rattle.ring_machine.specs.declared.machine.EndMachine.{EndMachine}
use Rattle.ring_machine.specs.declared.machine.Stage.TheVariants.{TakeFirst}
use Rattle.ring_machine.specs.declared.machine.Ending.TheVariants.{Empty, BadIndex}
use Rattle.ring_machine.specs.declared.place.Ring.{Ring}
use Rattle.ring_machine.specs.declared.place.Place.TheVariants.{Write, Cell}
use Rattle.ring_machine.specs.declared.place.Op.TheVariants.{Load}
use Rattle.ring_machine.specs.Places.{in_of, is_index, cell_of, low, ahead, len8_of}
use Rattle.ring_machine.specs.Steps.{fed, ends, breaks, next_of, take_begun, is_busy_at}
use Rattle.ring_machine.proofs.Sound.{cell_below}
use Rattle.ring_call_plan.specs.declared.end.PlanEnd.{PlanEnd}
use Rattle.ring_call_plan.specs.declared.end.TakePlan.{TakePlan}
use Rattle.ring_call_plan.specs.Answers.{number_of_ending}
use Rattle.ring_call_plan.specs.Numbers.{is_at, is_formed, has_length, has_offset, take_says, take_end, take_at, head_says, head_end, head_planned, take_plan_of}
use Rattle.ring_call_plan.specs.Plans.{TakeBegun, TakeEnded, offset_in}
use Rattle.ring_call_plan.specs.Shown.{Shows, feds}
use Rattle.ring_call_plan.proofs.Parts.{apart, true_is, false_is, state_is}
use Rattle.ring_call_plan.proofs.Takes.{begun_as, ended_as}
use Rattle.ring_call_plan_laws.specs.Accesses.{Access, loaded, answers, loads_after}
use Rattle.ring_call_plan_laws.specs.Whole.{plain}
use Rattle.ring_call_plan_laws.proofs.Walks.{AreMachineSteps, Walk, said_over, over_by, kept_form}

fed_on : (m : EndMachine) (before : List Access) (r : Ring) (at first : ℕ) (ws : List ℕ) → feds m (answers (loads_after before r at first ws)) ≡ feds (feds m (answers before)) ws
fed_on m before r at first [] = refl
fed_on m before r at first (v ∷ vs) = ap (λ (k : EndMachine). fed k v) (fed_on m before r at first vs)

abbrev LoadsBy : EndMachine → TakePlan → Side → ℕ → Type 0
LoadsBy m q y n = (ws p : List ℕ) → length ws + 1 < n → next_of (feds m ws) p ≡ Some (Load (Cell (in_of y) (offset_in q.at q.first (length ws))))

words_loaded : (m : EndMachine) (before : List Access) (p : List ℕ) (q : TakePlan) (y z : Side) (n : ℕ) → AreMachineSteps m p before → LoadsBy (feds m (answers before)) q z n → z ≡ y
    → (ws : List ℕ) → length ws + 1 ≤ n → AreMachineSteps m p (loads_after before (in_of y) q.at q.first ws)
words_loaded m before p q y z n steps by side [] h = steps
words_loaded m before p q y z n steps by side (v ∷ vs) h = (
  ap (λ (k : EndMachine). next_of k p) (fed_on m before (in_of y) q.at q.first vs)
      ∙ by vs p (omega (arith, h))
      ∙ (λ i. Some (Load (Cell (in_of (side i)) (offset_in q.at q.first (length vs))))),
  words_loaded m before p q y z n steps by side vs (omega (arith, h)),
)

abbrev three_says : Bool → Bool → Bool → ℕ
three_says b c d = cond b (cond c (cond d 6 19) 7) 0

pub planned_take : (b c d : Bool) → three_says b c d ≡ 19 → (b ≡ true) × (c ≡ true) × (d ≡ false)
planned_take true true false h = (refl, refl, refl)
planned_take _ _ _ h = absurd (cc)

plain_take : (b c d : Bool) → plain (three_says b c d) ≡ three_says b c d
plain_take true true true = refl
plain_take _ _ _ = refl

abbrev pub head_word : Bool → Bool → ℕ
head_word c d = cond c (cond d 19 9) 8

pub some_head : (c d : Bool) → head_word c d ≡ 0 → ⊥
some_head true true h = cc
some_head _ _ h = cc

plain_head : (c d : Bool) → plain (head_word c d) ≡ head_word c d
plain_head true true = refl
plain_head _ _ = refl

planned_head : (c d : Bool) → head_word c d ≡ 19 → (c ≡ true) × (d ≡ true)
planned_head true true h = (refl, refl)
planned_head _ _ h = absurd (cc)

same_plan : (b c d : Bool) (q : TakePlan) → cond b (cond c (cond d q q) q) q ≡ q
same_plan true true true q = refl
same_plan _ _ _ q = refl

first_walk : (e : PlanEnd) (m : EndMachine) (v : ℕ) → Shows e m → take_says e v ≢ 0 → eqb (take_says e v) 19 ≡ false → Walk (take_begun m) [] (loaded (Write (in_of m.side)) v ∷ []) (take_end e v) (take_says e v)
first_walk e m v s used other =
    let tb : TakeBegun m v (take_says e v) (take_end e v) (take_at e v 0) = begun_as e v 0 (take_says e v) (take_end e v) (take_at e v 0) refl refl refl m s used in
    let now : EndMachine = fed (take_begun m) v in
    let it = said_over now.stage now.ended (ap (λ (a : ℕ). eqb a 19) (sym tb.says) ∙ other) in
    record { steps = (refl, tt); shows = tb.shows; over = it.0; says = plain_take (is_at 0 e) (is_index e.cells v) (eqb (cell_of v) e.read) ∙ tb.says ∙ it.1 }

module _ (e : PlanEnd) (m : EndMachine) (v h : ℕ) (s : Shows e m) (says : take_says e v ≡ 19) where
  abbrev y : Side
  y = m.side

  abbrev now : EndMachine
  now = fed (take_begun m) v

  tb : TakeBegun m v (take_says e v) (take_end e v) (take_at e v 0)
  tb = begun_as e v 0 (take_says e v) (take_end e v) (take_at e v 0) refl refl refl m s (λ z. apart 0 19 refl (sym z ∙ says))

  parts : (is_at 0 e ≡ true) × (is_index e.cells v ≡ true) × (eqb (cell_of v) e.read ≡ false)
  parts = planned_take (is_at 0 e) (is_index e.cells v) (eqb (cell_of v) e.read) says

  abbrev on : PlanEnd
  on = record e { len = 0; seen = cell_of v; state = 3 }

  end_is : take_end e v ≡ on
  end_is = true_is (is_at 0 e) _ _ parts.0 ∙ true_is (is_index e.cells v) _ _ parts.1 ∙ false_is (eqb (cell_of v) e.read) _ _ parts.2

  on_at : is_at 3 on ≡ true
  on_at = let below : cell_of v < e.cells = cell_below e.cells v parts.1 in kept_form e (cell_of v) 0 (state_is e 0 (is_formed e) parts.0).1 below (omega (arith, below))

  now_side : now.side ≡ y
  now_side = side_of (is_index m.cells v) (eqb (cell_of v) m.read)
    where
      side_of : (b c : Bool)
          → (cond b (cond c (record (ends (take_begun m) Empty) { drained = m.drained || m.peer_marked }) (record (take_begun m) { stage = TakeFirst; seen = cell_of v; done = 0 })) (breaks (take_begun m) BadIndex (low v))).side ≡ m.side
      side_of true true = refl
      side_of true false = refl
      side_of false c = refl

  abbrev q : TakePlan
  q = take_plan_of on h

  head_is : head_says on h ≡ head_word (has_length on h) (has_offset h)
  head_is = true_is (is_at 3 on) _ _ on_at

  te : TakeEnded now h (head_says on h) (head_end on h) q
  te = subst (TakeEnded now h (head_says on h) (head_end on h)) (same_plan (is_at 3 on) (has_length on h) (has_offset h) q)
      (ended_as on h q (head_says on h) (head_end on h) (head_planned on h q) refl refl refl now (subst (λ (u : PlanEnd). Shows u now) end_is tb.shows) (λ z. some_head (has_length on h) (has_offset h) (sym head_is ∙ z)))

  abbrev two : List Access
  two = loaded (Cell (in_of y) (take_at e v 0)) h ∷ loaded (Write (in_of y)) v ∷ []

  two_steps : AreMachineSteps (take_begun m) [] two
  two_steps = (tb.load says [], (refl, tt))

  refused : eqb (head_says on h) 19 ≡ false → Walk (take_begun m) [] two (head_end on h) (head_says on h)
  refused other =
      let it = said_over (fed now h).stage (fed now h).ended (ap (λ (a : ℕ). eqb a 19) (sym te.says) ∙ other) in
      record {
        steps = two_steps;
        shows = te.stops (λ z. let t : eqb (head_says on h) 19 ≡ true = grind (arith, nat_tests, z) in let no : true ≡ false = sym t ∙ other in cc);
        over = it.0;
        says = ap plain head_is ∙ plain_head (has_length on h) (has_offset h) ∙ sym head_is ∙ te.says ∙ it.1;
      }

  took_walk : head_says on h ≡ 19 → (ws : List ℕ) → length ws + 1 ≡ len8_of h → Walk (take_begun m) [] (loads_after two (in_of y) q.at q.first ws) (head_end on h) 5
  took_walk one ws size =
      let is : feds (take_begun m) (answers (loads_after two (in_of y) q.at q.first ws)) ≡ feds (fed now h) ws = fed_on (take_begun m) two (in_of y) q.at q.first ws in
      let t = te.took one ws size in
      let c = planned_head (has_length on h) (has_offset h) (sym head_is ∙ one) in
      let rests : (head_end on h).state ≡ 0 =
      ap (λ (u : PlanEnd). u.state) (true_is (is_at 3 on) (cond (has_length on h) (cond (has_offset h) (record on { len = len8_of h; read = ahead e.cells e.read (len8_of h + 1); state = 0 }) (record on { state = 1 })) (record on { state = 1 })) on on_at ∙ true_is (has_length on h) _ _ c.0 ∙ true_is (has_offset h) _ _ c.1) in
      record {
        steps = words_loaded (take_begun m) two [] q y now.side (len8_of h) two_steps (te.loads one) now_side ws (omega (arith, size));
        shows = subst (Shows (head_end on h)) (sym is) t.0;
        over = ap (λ (j : EndMachine). is_busy_at j.stage) is ∙ over_by (head_end on h) (feds (fed now h) ws) 0 t.0 rests refl;
        says = ap number_of_ending (sym t.1) ∙ ap (λ (j : EndMachine). number_of_ending j.ended) (sym is);
      }

  head_walk : (ws : List ℕ) → (head_says on h ≡ 19 → length ws + 1 ≡ len8_of h)
      → Walk (take_begun m) [] (cond (head_says on h == 19) (loads_after two (in_of y) q.at q.first ws) two) (head_end on h) (cond (head_says on h == 19) 5 (head_says on h))
  head_walk ws size = by_plan (eqb (head_says on h) 19) refl
    where
      by_plan : (b : Bool) → eqb (head_says on h) 19 ≡ b → Walk (take_begun m) [] (cond b (loads_after two (in_of y) q.at q.first ws) two) (head_end on h) (cond b 5 (head_says on h))
      by_plan true t = let one : head_says on h ≡ 19 = grind (arith, nat_tests, t) in took_walk one ws (size one)
      by_plan false t = refused t

  pub planned_walk : (ws : List ℕ) → (head_says (take_end e v) h ≡ 19 → length ws + 1 ≡ len8_of h)
      → Walk (take_begun m) [] (cond (head_says (take_end e v) h == 19) (loads_after two (in_of y) (take_plan_of (take_end e v) h).at (take_plan_of (take_end e v) h).first ws) two) (head_end (take_end e v) h) (cond (head_says (take_end e v) h == 19) 5 (head_says (take_end e v) h))
  planned_walk ws size =
      subst (λ (u : PlanEnd). Walk (take_begun m) [] (cond (head_says u h == 19) (loads_after two (in_of y) (take_plan_of u h).at (take_plan_of u h).first ws) two) (head_end u h) (cond (head_says u h == 19) 5 (head_says u h))) (sym end_is)
      (head_walk ws (subst (λ (u : PlanEnd). head_says u h ≡ 19 → length ws + 1 ≡ len8_of h) end_is size))

abbrev one_number : ℕ → ℕ → Type 0
one_number a b = a ≡ b

pub take_walk : (e : PlanEnd) (m : EndMachine) (v h : ℕ) (ws : List ℕ) → Shows e m → take_says e v ≢ 0 → (one_number (cond (take_says e v == 19) (cond (head_says (take_end e v) h == 19) 5 (head_says (take_end e v) h)) (take_says e v)) 5 → length ws + 1 ≡ len8_of h)
    → Walk (take_begun m) []
    (cond (take_says e v == 19) (cond (head_says (take_end e v) h == 19) (loads_after (loaded (Cell (in_of m.side) (take_at e v 0)) h ∷ loaded (Write (in_of m.side)) v ∷ []) (in_of m.side) (take_plan_of (take_end e v) h).at (take_plan_of (take_end e v) h).first ws) (loaded (Cell (in_of m.side) (take_at e v 0)) h ∷ loaded (Write (in_of m.side)) v ∷ [])) (loaded (Write (in_of m.side)) v ∷ []))
    (cond (take_says e v == 19) (head_end (take_end e v) h) (take_end e v))
    (cond (take_says e v == 19) (cond (head_says (take_end e v) h == 19) 5 (head_says (take_end e v) h)) (take_says e v))
take_walk e m v h ws s used size = by_plan (eqb (take_says e v) 19) refl
  where
    by_plan : (b : Bool) → eqb (take_says e v) 19 ≡ b
        → Walk (take_begun m) []
        (cond b (cond (head_says (take_end e v) h == 19) (loads_after (loaded (Cell (in_of m.side) (take_at e v 0)) h ∷ loaded (Write (in_of m.side)) v ∷ []) (in_of m.side) (take_plan_of (take_end e v) h).at (take_plan_of (take_end e v) h).first ws) (loaded (Cell (in_of m.side) (take_at e v 0)) h ∷ loaded (Write (in_of m.side)) v ∷ [])) (loaded (Write (in_of m.side)) v ∷ []))
        (cond b (head_end (take_end e v) h) (take_end e v))
        (cond b (cond (head_says (take_end e v) h == 19) 5 (head_says (take_end e v) h)) (take_says e v))
    by_plan true t =
        planned_walk e m v h s (grind (arith, nat_tests, t)) ws
        (λ one. size (true_is (eqb (take_says e v) 19) (cond {A = ℕ} (head_says (take_end e v) h == 19) 5 (head_says (take_end e v) h)) (take_says e v) t ∙ true_is (eqb (head_says (take_end e v) h) 19) 5 (head_says (take_end e v) h) (grind (arith, nat_tests, one))))
    by_plan false t = first_walk e m v s used t
