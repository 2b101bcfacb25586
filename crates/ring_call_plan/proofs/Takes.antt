-- A planned take is that of the machine.
use Rattle.std.proofs.Common.{◌≡◌, ◌≢◌, ℕ, ◌+◌, ◌-◌, ◌*◌, ◌%◌, ◌/◌, ◌<◌, ◌≤◌, Bool, true, false, ◌&&◌, cond, leb, ltb, eqb, List, [], ◌∷◌, length, Some, refl, sym, ap, ◌∙◌, subst, arith}
use Rattle.std.proofs.lemmas.Bool.Decides.{nat_tests}
use Rattle.ring_machine.specs.declared.machine.Stage.{Stage}
use Rattle.ring_machine.specs.declared.machine.Stage.TheVariants.{Idle, Stopped, TakeFirst, TakeCell}
use Rattle.ring_machine.specs.declared.machine.Ending.TheVariants.{Took, BadLength, BadOffset}
use Rattle.ring_machine.specs.declared.machine.EndMachine.{EndMachine}
use Rattle.ring_machine.specs.declared.place.Place.TheVariants.{Cell}
use Rattle.ring_machine.specs.declared.place.Op.TheVariants.{Load}
use Rattle.ring_machine.specs.Places.{in_of, is_index, cell_of, ahead, used, len8_of}
use Rattle.ring_machine.specs.Steps.{fed, fed_at, ends, breaks, next_of, take_begun}
use Rattle.ring_call_plan.specs.declared.end.PlanEnd.{PlanEnd}
use Rattle.ring_call_plan.specs.declared.end.TakePlan.{TakePlan}
use Rattle.ring_call_plan.specs.Numbers.{is_formed, is_at, before_wrap, take_says, take_end, take_at, has_length, has_offset, head_says, head_end, take_plan_of, head_planned}
use Rattle.ring_call_plan.specs.Shown.{state_at, Shows, feds}
use Rattle.ring_call_plan.specs.Plans.{said, offset_in, TakeBegun, TakeEnded, TakeInside}
use Rattle.ring_call_plan.proofs.Parts.{apart, offset_parts, when_true, true_is, false_is, at_twin, taking_at, rests, state_is, awake, unmarked, idle_shows}

index_same : (e : PlanEnd) (m : EndMachine) (v : ℕ) → Shows e m → is_index e.cells v ≡ is_index m.cells v
index_same e m v s = ap (λ n. is_index n v) (sym s.cells)

read_same : (e : PlanEnd) (m : EndMachine) (v : ℕ) → Shows e m → eqb (cell_of v) e.read ≡ eqb (cell_of v) m.read
read_same e m v s = ap (eqb (cell_of v)) (sym s.read)

module _ (e : PlanEnd) (m : EndMachine) (v : ℕ) (s : Shows e m) (can : is_at 0 e ≡ true) where
  zero_is : e.state ≡ 0
  zero_is = (state_is e 0 (is_formed e) can).0

  idle_state : state_at Idle m ≡ e.state
  idle_state = sym (ap (λ (st : Stage). state_at st m) (rests e m s zero_is).0) ∙ s.state

  begun_shows : Shows (take_end e v) (fed (take_begun m) v)
  begun_shows = when_true (λ (x : PlanEnd). Shows x (fed (take_begun m) v)) (is_at 0 e) _ _ can
      (at_twin Shows (is_index e.cells v) (is_index m.cells v) _ _ _ _ (index_same e m v s)
      (λ _. at_twin Shows (eqb (cell_of v) e.read) (eqb (cell_of v) m.read) _ _ _ _ (read_same e m v s)
      (λ _. record { cells = s.cells; write = s.write; read = s.read; start = s.start; seen = s.seen; len = refl; want = s.want; state = idle_state; done = refl; asleep = s.asleep; marked = s.marked })
      (λ _. record { cells = s.cells; write = s.write; read = s.read; start = s.start; seen = refl; len = refl; want = s.want; state = refl; done = refl; asleep = awake e m 0 s zero_is refl; marked = unmarked e m 0 s zero_is refl }))
      (λ _. record { cells = s.cells; write = s.write; read = s.read; start = s.start; seen = s.seen; len = refl; want = s.want; state = refl; done = refl; asleep = awake e m 0 s zero_is refl; marked = unmarked e m 0 s zero_is refl }))

  begun_says : take_says e v ≡ said (fed (take_begun m) v)
  begun_says = when_true (λ (x : ℕ). x ≡ said (fed (take_begun m) v)) (is_at 0 e) _ _ can
      (at_twin (λ (x : ℕ) (y : EndMachine). x ≡ said y) (is_index e.cells v) (is_index m.cells v) _ _ _ _ (index_same e m v s)
      (λ _. at_twin (λ (x : ℕ) (y : EndMachine). x ≡ said y) (eqb (cell_of v) e.read) (eqb (cell_of v) m.read) _ _ _ _ (read_same e m v s) (λ _. refl) (λ _. refl))
      (λ _. refl))

planned_by : (b c d : Bool) → cond b (cond c (cond {A = ℕ} d 6 19) 7) 0 ≡ 19 → (b ≡ true) × (c ≡ true) × (d ≡ false)
planned_by true true true h = absurd (cc)
planned_by true true false h = (refl, refl, refl)
planned_by true false d h = absurd (cc)
planned_by false c d h = absurd (cc)

used_by : (b c d : Bool) → cond b (cond c (cond {A = ℕ} d 6 19) 7) 0 ≢ 0 → b ≡ true
used_by true c d h = refl
used_by false c d h = absurd (h refl)

begun : (e : PlanEnd) (m : EndMachine) (v at : ℕ) → Shows e m → take_says e v ≢ 0 → TakeBegun m v (take_says e v) (take_end e v) (take_at e v at)
begun e m v at s used =
    let can : is_at 0 e ≡ true = used_by (is_at 0 e) (is_index e.cells v) (eqb (cell_of v) e.read) used in
    record {
      shows = begun_shows e m v s can;
      says = begun_says e m v s can;
      load = λ one p.
          let t = planned_by (is_at 0 e) (is_index e.cells v) (eqb (cell_of v) e.read) one in
          let offset : take_at e v at ≡ 8 * e.read = true_is (is_at 0 e) _ _ can ∙ true_is (is_index e.cells v) _ _ t.1 ∙ false_is (eqb (cell_of v) e.read) _ _ t.2 in
          let is : fed (take_begun m) v ≡ record (take_begun m) { stage = TakeFirst; seen = cell_of v; done = 0 } =
          true_is (is_index m.cells v) _ _ (sym (index_same e m v s) ∙ t.1) ∙ false_is (eqb (cell_of v) m.read) _ _ (sym (read_same e m v s) ∙ t.2) in
          ap (λ (k : EndMachine). next_of k p) is ∙ (λ i. Some (Load (Cell (in_of m.side) ((ap (λ (x : ℕ). 8 * x) s.read ∙ sym offset) i))));
    }

pub begun_as : (e : PlanEnd) (v at a : ℕ) (n : PlanEnd) (i : ℕ) → a ≡ take_says e v → n ≡ take_end e v → i ≡ take_at e v at → (m : EndMachine) → Shows e m → a ≢ 0 → TakeBegun m v a n i
begun_as e v at a n i says end index m s used =
    subst (λ (x : ℕ). TakeBegun m v x n i) (sym says)
    (subst (λ (x : PlanEnd). TakeBegun m v (take_says e v) x i) (sym end)
    (subst (λ (x : ℕ). TakeBegun m v (take_says e v) (take_end e v) x) (sym index)
    (begun e m v at s (subst (λ (x : ℕ). x ≢ 0) says used))))

-- The cells of a take. A take that has loaded j words of a packet whose first word is h
abbrev copying : EndMachine → ℕ → ℕ → EndMachine
copying m h j = record m { stage = TakeCell; len = len8_of h; done = j }

abbrev taken : EndMachine → ℕ → EndMachine
taken m h = record (ends (copying m h 0) Took) { read = ahead m.cells m.read (len8_of h + 1); words = len8_of h }

copied : (m : EndMachine) (h : ℕ) (ws : List ℕ) → length ws + 1 < len8_of h → feds (copying m h 1) ws ≡ copying m h (length ws + 1)
copied m h [] less = refl
copied m h (x ∷ ws) less =
    let more : length ws + 1 + 1 < len8_of h = omega (arith, less) in
    ap (λ (k : EndMachine). fed k x) (copied m h ws (omega (arith, more)))
    ∙ true_is (ltb (length ws + 1 + 1) (len8_of h)) (copying m h (length ws + 1 + 1)) (taken m h) (grind (arith, nat_tests, more))
    ∙ ap (copying m h) (omega arith)

copied_all : (m : EndMachine) (h : ℕ) (ws : List ℕ) → 2 ≤ len8_of h → length ws + 1 ≡ len8_of h → feds (copying m h 1) ws ≡ taken m h
copied_all m h [] two same = absurd (omega (arith, two, same))
copied_all m h (x ∷ ws) two same =
    let all : length ws + 1 + 1 ≡ len8_of h = omega (arith, same) in
    ap (λ (k : EndMachine). fed k x) (copied m h ws (omega (arith, all)))
    ∙ false_is (ltb (length ws + 1 + 1) (len8_of h)) (copying m h (length ws + 1 + 1)) (taken m h) (grind (arith, nat_tests, all))

offset_is : (n r l j : ℕ) → r < n → l + 1 < n → j + 1 < l → 8 * ahead n r (j + 1) ≡ offset_in (8 * ahead n r 1) (before_wrap n (ahead n r 1) (l - 1)) j
offset_is n r l j a b c = grind (arith, nat_tests)

used_below : (d r w : ℕ) → r < d → w < d → used d r w < d
used_below d r w a b = grind (arith, nat_tests)

-- what the tests of an end and of a packet's first word say
read_below : (e : PlanEnd) → is_formed e ≡ true → (e.read < e.cells) × (e.seen < e.cells)
read_below e h = ((grind (arith, nat_tests, h)), (grind (arith, nat_tests, h)))

length_parts : (e : PlanEnd) (h : ℕ) → has_length e h ≡ true → (2 ≤ len8_of h) × (len8_of h < used e.cells e.read e.seen)
length_parts e h t = by_both (leb 2 (len8_of h)) (ltb (len8_of h) (used e.cells e.read e.seen)) refl refl t
  where
    by_both : (b c : Bool) → leb 2 (len8_of h) ≡ b → ltb (len8_of h) (used e.cells e.read e.seen) ≡ c → (b && c) ≡ true → (2 ≤ len8_of h) × (len8_of h < used e.cells e.read e.seen)
    by_both true true p q t = ((grind (arith, nat_tests, p)), (grind (arith, nat_tests, q)))
    by_both true false p q t = absurd (cc)
    by_both false c p q t = absurd (cc)

packet_fits : (e : PlanEnd) (h : ℕ) → is_formed e ≡ true → has_length e h ≡ true → len8_of h + 1 < e.cells
packet_fits e h f t =
    let r = read_below e f in
    let below : used e.cells e.read e.seen < e.cells = used_below e.cells e.read e.seen r.0 r.1 in
    let less : len8_of h < used e.cells e.read e.seen = (length_parts e h t).1 in
    omega (arith, below, less)

abbrev taken_to : PlanEnd → ℕ → PlanEnd
taken_to e h = record e { len = len8_of h; read = ahead e.cells e.read (len8_of h + 1); state = 0 }

abbrev head_ends : Bool → Bool → PlanEnd → ℕ → PlanEnd
head_ends b c e h = cond b (cond c (taken_to e h) (record e { state = 1 })) (record e { state = 1 })

abbrev head_words : Bool → Bool → ℕ
head_words b c = cond b (cond c 19 9) 8

abbrev head_plans : Bool → Bool → PlanEnd → ℕ → TakePlan → TakePlan
head_plans b c e h q = cond b (cond c (take_plan_of e h) q) q

module _ (e : PlanEnd) (m : EndMachine) (h : ℕ) (q : TakePlan) (s : Shows e m) (three : e.state ≡ 3) (formed : is_formed e ≡ true) where
  stage_is : m.stage ≡ TakeFirst
  stage_is = taking_at m.stage m (s.state ∙ three)

  asleep_is : m.asleep ≡ false
  asleep_is = awake e m 3 s three refl

  marked_is : m.marked ≡ false
  marked_is = unmarked e m 3 s three refl

  length_same : has_length e h ≡ (leb 2 (len8_of h) && ltb (len8_of h) (used m.cells m.read m.seen))
  length_same = λ i. leb 2 (len8_of h) && ltb (len8_of h) (used (sym s.cells i) (sym s.read i) (sym s.seen i))

  fed_is : (b c : Bool) → has_length e h ≡ b → has_offset h ≡ c
      → fed m h ≡ cond b (cond c (copying m h 1) (breaks m BadOffset (h / 65536 % 4294967296))) (breaks m BadLength (h / 65536 % 4294967296))
  fed_is b c x y =
      ap (λ (st : Stage). fed_at st m h) stage_is
      ∙ (λ i. cond ((sym length_same ∙ x) i) (cond (y i) (copying m h 1) (breaks m BadOffset (h / 65536 % 4294967296))) (breaks m BadLength (h / 65536 % 4294967296)))

  stopped : (w : EndMachine) → w.cells ≡ m.cells → w.write ≡ m.write → w.read ≡ m.read → w.start ≡ m.start → w.seen ≡ m.seen → w.len ≡ m.len → w.want ≡ m.want → w.stage ≡ Stopped → w.done ≡ 0 → w.asleep ≡ m.asleep → w.marked ≡ m.marked → Shows (record e { state = 1 }) w
  stopped w c wr r t se l wa st d a k = record { cells = c ∙ s.cells; write = wr ∙ s.write; read = r ∙ s.read; start = t ∙ s.start; seen = se ∙ s.seen; len = l ∙ s.len; want = wa ∙ s.want; state = ap (λ (z : Stage). state_at z w) st; done = d; asleep = a ∙ asleep_is; marked = k ∙ marked_is }

  took_shows : Shows (taken_to e h) (taken m h)
  took_shows = record { cells = s.cells; write = s.write; read = (λ i. ahead (s.cells i) (s.read i) (len8_of h + 1)); start = s.start; seen = s.seen; len = refl; want = s.want; state = idle_shows (taken m h) asleep_is marked_is; done = refl; asleep = asleep_is; marked = marked_is }

  by_tests : (b c : Bool) → has_length e h ≡ b → has_offset h ≡ c → TakeEnded m h (head_words b c) (head_ends b c e h) (head_plans b c e h q)
  by_tests true true x y =
      let is : fed m h ≡ copying m h 1 = fed_is true true x y in
      let two : 2 ≤ len8_of h = (length_parts e h x).0 in
      let size : len8_of h + 1 < e.cells = packet_fits e h formed x in
      let below : e.read < e.cells = (read_below e formed).0 in
      record {
        says = sym (ap said is);
        stops = λ n. absurd (n refl);
        form = λ _. (refl, refl);
        loads = λ _ ws p less.
            let j : ℕ = length ws in
            ap (λ (k : EndMachine). next_of (feds k ws) p) is ∙ ap (λ (k : EndMachine). next_of k p) (copied m h ws less)
            ∙ (λ i. Some (Load (Cell (in_of m.side) (((λ i. 8 * ahead (s.cells i) (s.read i) (j + 1)) ∙ offset_is e.cells e.read (len8_of h) j below size less) i))));
        took = λ _ ws same.
            let done : feds (fed m h) ws ≡ taken m h = ap (λ (k : EndMachine). feds k ws) is ∙ copied_all m h ws two same in
            (subst (Shows (taken_to e h)) (sym done) took_shows, ap (λ (k : EndMachine). k.ended) done);
      }
  by_tests true false x y =
      let is : fed m h ≡ breaks m BadOffset (h / 65536 % 4294967296) = fed_is true false x y in
      record {
        says = sym (ap said is);
        stops = λ _. subst (Shows (record e { state = 1 })) (sym is) (stopped _ refl refl refl refl refl refl refl refl refl refl refl);
        form = λ z. absurd (apart 9 19 refl z);
        loads = λ z. absurd (apart 9 19 refl z);
        took = λ z. absurd (apart 9 19 refl z);
      }
  by_tests false c x y =
      let is : fed m h ≡ breaks m BadLength (h / 65536 % 4294967296) = fed_is false c x y in
      record {
        says = sym (ap said is);
        stops = λ _. subst (Shows (record e { state = 1 })) (sym is) (stopped _ refl refl refl refl refl refl refl refl refl refl refl);
        form = λ z. absurd (apart 8 19 refl z);
        loads = λ z. absurd (apart 8 19 refl z);
        took = λ z. absurd (apart 8 19 refl z);
      }

pub ended_as : (e : PlanEnd) (h : ℕ) (q : TakePlan) (a : ℕ) (n : PlanEnd) (q' : TakePlan) → a ≡ head_says e h → n ≡ head_end e h → q' ≡ head_planned e h q → (m : EndMachine) → Shows e m → a ≢ 0 → TakeEnded m h a n q'
ended_as e h q a n q' says end plan m s used = by_can (is_at 3 e) refl
  where
    by_can : (b : Bool) → is_at 3 e ≡ b → TakeEnded m h a n q'
    by_can false g = absurd (used (says ∙ false_is (is_at 3 e) _ _ g))
    by_can true g =
        let r = state_is e 3 (is_formed e) g in
        subst (λ (x : ℕ). TakeEnded m h x n q') (sym (says ∙ true_is (is_at 3 e) _ _ g))
        (subst (λ (x : PlanEnd). TakeEnded m h (head_words (has_length e h) (has_offset h)) x q') (sym (end ∙ true_is (is_at 3 e) _ _ g))
        (subst (λ (x : TakePlan). TakeEnded m h (head_words (has_length e h) (has_offset h)) (head_ends (has_length e h) (has_offset h) e h) x) (sym (plan ∙ true_is (is_at 3 e) _ _ g))
        (by_tests e m h q s r.0 r.1 (has_length e h) (has_offset h) refl refl)))

-- the plan lies in the ring
head_by : (b c d : Bool) → cond b (cond c (cond {A = ℕ} d 19 9) 8) 0 ≡ 19 → (b ≡ true) × (c ≡ true) × (d ≡ true)
head_by true true true h = (refl, refl, refl)
head_by true true false h = absurd (cc)
head_by true false d h = absurd (cc)
head_by false c d h = absurd (cc)

ahead_below : (n i k : ℕ) → i < n → k < n → ahead n i k < n
ahead_below n i k a b = grind (arith, nat_tests)

runs_in : (n f l : ℕ) → f < n → 2 ≤ l → l + 1 < n → (before_wrap n f (l - 1) + (l - 1 - before_wrap n f (l - 1)) + 1 ≡ l) × (8 * f + 8 * before_wrap n f (l - 1) ≤ 8 * n) × (8 * (l - 1 - before_wrap n f (l - 1)) ≤ 8 * f)
runs_in n f l a b c = ((grind (arith, nat_tests)), (grind (arith, nat_tests)), (grind (arith, nat_tests)))

eight_whole : (x : ℕ) → 8 * x % 8 ≡ 0
eight_whole x = omega arith

eight_back : (x : ℕ) → 8 * x / 8 ≡ x
eight_back x = omega arith

ahead_used : (n r j : ℕ) → r < n → j < n → used n r (ahead n r j) ≡ j
ahead_used n r j a b = grind (arith, nat_tests)

held_is : (n r l j : ℕ) → r < n → l + 1 < n → j + 1 < l → used n r (offset_in (8 * ahead n r 1) (before_wrap n (ahead n r 1) (l - 1)) j / 8) ≡ j + 1
held_is n r l j a b c =
    ap (λ (x : ℕ). used n r (x / 8)) (sym (offset_is n r l j a b c)) ∙ ap (used n r) (eight_back (ahead n r (j + 1))) ∙ ahead_used n r (j + 1) a (omega (arith, b, c))

pub inside_as : (e : PlanEnd) (h : ℕ) (q : TakePlan) (a : ℕ) (q' : TakePlan) → a ≡ head_says e h → q' ≡ head_planned e h q → a ≡ 19 → TakeInside e.cells e.read e.seen q'
inside_as e h q a q' says plan one =
    let t = head_by (is_at 3 e) (has_length e h) (has_offset h) (sym says ∙ one) in
    let f : is_formed e ≡ true = (state_is e 3 (is_formed e) t.0).1 in
    let two : 2 ≤ len8_of h = (length_parts e h t.1).0 in
    let size : len8_of h + 1 < e.cells = packet_fits e h f t.1 in
    let below : e.read < e.cells = (read_below e f).0 in
    let r = runs_in e.cells (ahead e.cells e.read 1) (len8_of h) (ahead_below e.cells e.read 1 below (omega (arith, two, size))) two size in
    subst (TakeInside e.cells e.read e.seen) (sym (plan ∙ true_is (is_at 3 e) _ _ t.0 ∙ true_is (has_length e h) _ _ t.1 ∙ true_is (has_offset h) _ _ t.2))
    (record { all = r.0; first = r.1; second = r.2; offset = offset_parts h t.2; whole = eight_whole (ahead e.cells e.read 1); held = λ j less. (held_is e.cells e.read (len8_of h) j below size less, let more : len8_of h < used e.cells e.read e.seen = (length_parts e h t.1).1 in omega (arith, less, more)) })
