-- A planned arm, a poll and a mark are those of the machine.
use Rattle.std.proofs.Common.{◌≡◌, ◌≢◌, ◌⊎◌, inl, inr, ℕ, ◌*◌, ◌<◌, ◌^◌, Bool, true, false, ◌&&◌, ◌||◌, not, cond, leb, ltb, eqb, List, [], ◌∷◌, length, Some, refl, sym, ap, ◌∙◌, subst, arith}
use Rattle.std.proofs.lemmas.Bool.Decides.{nat_tests}
use Rattle.ring_machine.specs.declared.machine.Stage.{Stage}
use Rattle.ring_machine.specs.declared.machine.Stage.TheVariants.{Idle, ArmPending, ArmMask, ArmWrite, ArmRead, ArmMark, ArmUndoPending, PollMask, PollPending}
use Rattle.ring_machine.specs.declared.machine.Ending.TheVariants.{FellAsleep, FoundWork, NoSignal, Woke}
use Rattle.ring_machine.specs.declared.machine.EndMachine.{EndMachine}
use Rattle.ring_machine.specs.declared.place.Place.TheVariants.{Mask, Mark, Read, Write}
use Rattle.ring_machine.specs.declared.place.Op.TheVariants.{Load, Store}
use Rattle.ring_machine.specs.Places.{in_of, out_of, peer_of, is_index, cell_of, free, low}
use Rattle.ring_machine.specs.Steps.{fed, fed_at, ends, undoes, next_of, arm_begun, poll_begun, finds_room}
use Rattle.ring_call_plan.specs.declared.end.PlanEnd.{PlanEnd}
use Rattle.ring_call_plan.specs.Numbers.{is_formed, is_at, can_arm, arm_says, arm_end, has_room, finds_work, armed_says, armed_end, polled_says, polled_end, commit_says, marked_end}
use Rattle.ring_call_plan.specs.Shown.{state_at, Shows, feds}
use Rattle.ring_call_plan.specs.Plans.{ArmBegun, ArmEnded, listened, PollEnded, MarkSaid}
use Rattle.ring_call_plan.proofs.Parts.{apart, true_is, false_is, arming_at, asleep_at, state_is, awake, unmarked, idle_shows, low_is}

abbrev begun_at : EndMachine → ℕ → Stage → EndMachine
begun_at m want st = record m { stage = st; len = 0; done = 0; want = want; saw = false }

begun : (e : PlanEnd) (m : EndMachine) (want : ℕ) → Shows e m → e.state ≡ 0 → ArmBegun m want (record e { len = 0; want = want; state = 5 })
begun e m want s z = by_want (eqb want 0) refl
  where
    asleep_is : m.asleep ≡ false
    asleep_is = awake e m 0 s z refl

    marked_is : m.marked ≡ false
    marked_is = unmarked e m 0 s z refl

    by_want : (b : Bool) → eqb want 0 ≡ b → ArmBegun m want (record e { len = 0; want = want; state = 5 })
    by_want true h =
        let is : arm_begun m want ≡ begun_at m want ArmMask = ap (λ (t : Bool). begun_at m want (cond t ArmMask ArmPending)) h in
        record {
          shows = subst (Shows (record e { len = 0; want = want; state = 5 })) (sym is) (record { cells = s.cells; write = s.write; read = s.read; start = s.start; seen = s.seen; len = refl; want = refl; state = ap (λ (t : Bool). cond {A = ℕ} t 5 8) h; done = refl; asleep = asleep_is; marked = marked_is });
          pending = λ n. absurd (n (grind (arith, nat_tests, h)));
          mask = λ ws p size. none ws p (size ∙ ap (λ (t : Bool). cond {A = ℕ} t 0 1) h) is;
        }
      where
        none : (ws p : List ℕ) → length ws ≡ 0 → arm_begun m want ≡ begun_at m want ArmMask → next_of (feds (arm_begun m want) ws) p ≡ Some (Store (Mask (in_of m.side)) 0)
        none [] p size is = ap (λ (k : EndMachine). next_of k p) is
        none (x ∷ ws) p size is = absurd (omega (arith, size))
    by_want false h =
        let is : arm_begun m want ≡ begun_at m want ArmPending = ap (λ (t : Bool). begun_at m want (cond t ArmMask ArmPending)) h in
        record {
          shows = subst (Shows (record e { len = 0; want = want; state = 5 })) (sym is) (record { cells = s.cells; write = s.write; read = s.read; start = s.start; seen = s.seen; len = refl; want = refl; state = ap (λ (t : Bool). cond {A = ℕ} t 8 5) h; done = refl; asleep = asleep_is; marked = marked_is });
          pending = λ _ p. ap (λ (k : EndMachine). next_of k p) is;
          mask = λ ws p size. one ws p (size ∙ ap (λ (t : Bool). cond {A = ℕ} t 0 1) h) is;
        }
      where
        one : (ws p : List ℕ) → length ws ≡ 1 → arm_begun m want ≡ begun_at m want ArmPending → next_of (feds (arm_begun m want) ws) p ≡ Some (Store (Mask (in_of m.side)) 0)
        one [] p size is = absurd (omega (arith, size))
        one (x ∷ []) p size is = ap (λ (k : EndMachine). next_of (fed k x) p) is
        one (x ∷ y ∷ ws) p size is = absurd (omega (arith, size))

arm_ready : (e : PlanEnd) (want : ℕ) → can_arm e want ≡ true → e.state ≡ 0
arm_ready e want h = by_test (is_at 0 e) refl h
  where
    by_test : (t : Bool) → is_at 0 e ≡ t → (t && (eqb e.start e.read && (eqb want 0 || (leb 24 want && ltb want (8 * e.cells))))) ≡ true → e.state ≡ 0
    by_test true i j = (state_is e 0 (is_formed e) i).0
    by_test false i j = absurd (cc)

pub arm_parts : (e : PlanEnd) (want : ℕ) → can_arm e want ≡ true → (e.state ≡ 0) × (e.start ≡ e.read) × (want < 8 * e.cells)
arm_parts e want h = by_tests (is_at 0 e) (eqb e.start e.read) (eqb want 0) (leb 24 want) (ltb want (8 * e.cells)) refl refl refl refl refl h
  where
    some_cells : is_at 0 e ≡ true → 0 < 8 * e.cells
    some_cells i = let f : is_formed e ≡ true = (state_is e 0 (is_formed e) i).1 in grind (arith, nat_tests, f)

    by_tests : (a b c d f : Bool) → is_at 0 e ≡ a → eqb e.start e.read ≡ b → eqb want 0 ≡ c → leb 24 want ≡ d → ltb want (8 * e.cells) ≡ f → (a && (b && (c || (d && f)))) ≡ true → (e.state ≡ 0) × (e.start ≡ e.read) × (want < 8 * e.cells)
    by_tests true true true d f i j k l n t = (arm_ready e want h, (grind (arith, nat_tests, j)), let z : want ≡ 0 = grind (arith, nat_tests, k) in let y = some_cells i in omega (arith, z, y))
    by_tests true true false true true i j k l n t = (arm_ready e want h, (grind (arith, nat_tests, j)), (grind (arith, nat_tests, n)))
    by_tests true true false true false i j k l n t = absurd (cc)
    by_tests true true false false f i j k l n t = absurd (cc)
    by_tests true false c d f i j k l n t = absurd (cc)
    by_tests false b c d f i j k l n t = absurd (cc)

pub begun_as : (e : PlanEnd) (want a : ℕ) (n : PlanEnd) → a ≡ arm_says e want → n ≡ arm_end e want → (m : EndMachine) → Shows e m → a ≢ 0 → ArmBegun m want n
begun_as e want a n says end m s used = by_can (can_arm e want) refl
  where
    by_can : (b : Bool) → can_arm e want ≡ b → ArmBegun m want n
    by_can false g = absurd (used (says ∙ false_is (can_arm e want) _ _ g))
    by_can true g = subst (ArmBegun m want) (sym (end ∙ true_is (can_arm e want) _ _ g)) (begun e m want s (arm_ready e want g))

abbrev same_number : ℕ → ℕ → Type 0
same_number a b = a ≡ b

not_work : same_number 12 13 ⊎ same_number 12 20 → ⊥
not_work (inl h) = apart 12 13 refl h
not_work (inr h) = apart 12 20 refl h

not_woken : same_number 14 15 ⊎ same_number 14 21 → ⊥
not_woken (inl h) = apart 14 15 refl h
not_woken (inr h) = apart 14 21 refl h

-- The end of an arm
abbrev armed : EndMachine → EndMachine
armed m = record m { stage = ArmWrite; masked = false }

abbrev slept : EndMachine → EndMachine
slept m = record (ends (record (armed m) { stage = ArmMark }) FellAsleep) { asleep = true }

module _ (e : PlanEnd) (m : EndMachine) (ws : List ℕ) (w r k : ℕ) (s : Shows e m) (five : e.state ≡ 5) (size : length ws ≡ cond (eqb e.want 0) 1 2) (small : w < 2 ^ 32) where
  asleep_is : m.asleep ≡ false
  asleep_is = awake e m 5 s five refl

  marked_is : m.marked ≡ false
  marked_is = unmarked e m 5 s five refl

  want_same : (b : Bool) → eqb m.want 0 ≡ b → eqb e.want 0 ≡ b
  want_same b h = ap (λ (x : ℕ). eqb x 0) (sym s.want) ∙ h

  stored : feds m ws ≡ armed m
  stored = elim (arming_at m.stage m (s.state ∙ five)) [ inl h ↦ one ws (size ∙ ap (λ (t : Bool). cond {A = ℕ} t 1 2) (want_same true h.1)) h.0 | inr h ↦ two ws (size ∙ ap (λ (t : Bool). cond {A = ℕ} t 1 2) (want_same false h.1)) h.0 ]
    where
      one : (us : List ℕ) → length us ≡ 1 → m.stage ≡ ArmMask → feds m us ≡ armed m
      one [] n i = absurd (omega (arith, n))
      one (x ∷ []) n i = ap (λ (st : Stage). fed_at st m x) i
      one (x ∷ y ∷ us) n i = absurd (omega (arith, n))

      two : (us : List ℕ) → length us ≡ 2 → m.stage ≡ ArmPending → feds m us ≡ armed m
      two [] n i = absurd (omega (arith, n))
      two (x ∷ []) n i = absurd (omega (arith, n))
      two (x ∷ y ∷ []) n i = ap (λ (j : EndMachine). fed j x) (ap (λ (st : Stage). fed_at st m y) i)
      two (x ∷ y ∷ z ∷ us) n i = absurd (omega (arith, n))

  -- the looks
  write_same : eqb w (8 * e.read) ≡ eqb (low w) (8 * m.read)
  write_same = λ i. eqb (sym (low_is w small) i) (8 * sym s.read i)

  room_same : has_room e r ≡ finds_room m r
  room_same = λ i. not (is_index (sym s.cells i) r) || ltb (sym s.want i) (8 * free (sym s.cells i) (cell_of r) (sym s.write i))

  after_write : (a b : Bool) → eqb w (8 * e.read) ≡ a → eqb e.want 0 ≡ b → feds m (w ∷ ws) ≡ cond a (cond b (record (armed m) { stage = ArmMark }) (record (armed m) { stage = ArmRead })) (undoes (armed m))
  after_write a b h g = ap (λ (j : EndMachine). fed j w) stored
      ∙ (λ i. cond ((sym write_same ∙ h) i) (cond ((ap (λ (x : ℕ). eqb x 0) s.want ∙ g) i) (record (armed m) { stage = ArmMark }) (record (armed m) { stage = ArmRead })) (undoes (armed m)))

  after_read : (c : Bool) → eqb w (8 * e.read) ≡ true → eqb e.want 0 ≡ false → has_room e r ≡ c → feds m (r ∷ w ∷ ws) ≡ cond c (undoes (armed m)) (record (armed m) { stage = ArmMark })
  after_read c h g o = ap (λ (j : EndMachine). fed j r) (after_write true false h g) ∙ ap (λ (t : Bool). cond t (undoes (armed m)) (record (armed m) { stage = ArmMark })) (sym room_same ∙ o)

  abbrev undone : Bool → EndMachine
  undone b = record (undoes (armed m)) { peer_marked = cond b true m.peer_marked; saw = cond b true m.saw }

  after_mark : (d : Bool) (us : List ℕ) → feds m us ≡ record (armed m) { stage = ArmMark } → eqb k 0 ≡ d → feds m (k ∷ us) ≡ cond d (slept m) (undone true)
  after_mark d us is h = ap (λ (j : EndMachine). fed j k) is ∙ ap (λ (t : Bool). cond t (slept m) (undone true)) h

  slept_shows : Shows (record e { state = 6 }) (slept m)
  slept_shows = record { cells = s.cells; write = s.write; read = s.read; start = s.start; seen = s.seen; len = s.len; want = s.want; state = ap (λ (t : Bool). cond {A = ℕ} t 7 6) marked_is; done = refl; asleep = refl; marked = marked_is }

  -- what the end shows once its stores are undone
  undone_shows : (x : EndMachine) → x.cells ≡ m.cells → x.write ≡ m.write → x.read ≡ m.read → x.start ≡ m.start → x.seen ≡ m.seen → x.len ≡ m.len → x.want ≡ 0 → x.stage ≡ Idle → x.done ≡ 0 → x.asleep ≡ m.asleep → x.marked ≡ m.marked → Shows (record e { want = 0; state = 0 }) x
  undone_shows x c wr rd t se l wa st d a n = record { cells = c ∙ s.cells; write = wr ∙ s.write; read = rd ∙ s.read; start = t ∙ s.start; seen = se ∙ s.seen; len = l ∙ s.len; want = wa; state = ap (λ (z : Stage). state_at z x) st ∙ idle_shows x (a ∙ asleep_is) (n ∙ marked_is); done = d; asleep = a ∙ asleep_is; marked = n ∙ marked_is }

  listened_is : (a b c : Bool) → eqb w (8 * e.read) ≡ a → eqb e.want 0 ≡ b → has_room e r ≡ c → listened e w r k ws ≡ cond a (cond b (k ∷ w ∷ ws) (cond c (r ∷ w ∷ ws) (k ∷ r ∷ w ∷ ws))) (w ∷ ws)
  listened_is a b c h g o = λ i. cond (h i) (cond (g i) (k ∷ w ∷ ws) (cond (o i) (r ∷ w ∷ ws) (k ∷ r ∷ w ∷ ws))) (w ∷ ws)

  loads : (p : List ℕ) → next_of (feds m ws) p ≡ Some (Load (Write (in_of m.side)))
  loads p = ap (λ (j : EndMachine). next_of j p) stored

  same_write : w ≡ 8 * e.read → eqb w (8 * e.read) ≡ true
  same_write h = grind (arith, nat_tests, h)

  no_want : e.want ≡ 0 → eqb e.want 0 ≡ true
  no_want h = grind (arith, nat_tests, h)

  some_want : e.want ≢ 0 → eqb e.want 0 ≡ false
  some_want h = by_test (eqb e.want 0) refl
    where
      by_test : (t : Bool) → eqb e.want 0 ≡ t → eqb e.want 0 ≡ false
      by_test true i = absurd (h (grind (arith, nat_tests, i)))
      by_test false i = i

  reads : w ≡ 8 * e.read → e.want ≢ 0 → (p : List ℕ) → next_of (feds m (w ∷ ws)) p ≡ Some (Load (Read (out_of m.side)))
  reads h g p = ap (λ (j : EndMachine). next_of j p) (after_write true false (same_write h) (some_want g))

  marks : w ≡ 8 * e.read → e.want ≡ 0 → (p : List ℕ) → next_of (feds m (w ∷ ws)) p ≡ Some (Load (Mark (peer_of m.side)))
  marks h g p = ap (λ (j : EndMachine). next_of j p) (after_write true true (same_write h) (no_want g))

  marks_room : w ≡ 8 * e.read → e.want ≢ 0 → has_room e r ≡ false → (p : List ℕ) → next_of (feds m (r ∷ w ∷ ws)) p ≡ Some (Load (Mark (peer_of m.side)))
  marks_room h g o p = ap (λ (j : EndMachine). next_of j p) (after_read false (same_write h) (some_want g) o)

  -- the three ends of an arm
  by_sleep : feds m (listened e w r k ws) ≡ slept m → ArmEnded e m ws w r k 12 (record e { state = 6 })
  by_sleep is = record {
    write = loads;
    read = reads;
    mark = marks;
    mark_room = marks_room;
    sleeps = λ _. (subst (Shows (record e { state = 6 })) (sym is) slept_shows, ap (λ (j : EndMachine). j.ended) is);
    mask = λ z. absurd (not_work z);
    works = λ z. absurd (apart 12 13 refl z);
    pending = λ z. absurd (apart 12 20 refl z);
    works_room = λ z. absurd (apart 12 20 refl z);
  }

  by_work : (b : Bool) → eqb e.want 0 ≡ true → feds m (listened e w r k ws) ≡ undone b → ArmEnded e m ws w r k 13 (record e { want = 0; state = 0 })
  by_work b g is =
      let none : m.want ≡ 0 = s.want ∙ (grind (arith, nat_tests, g)) in
      let none_is : eqb m.want 0 ≡ true = ap (λ (x : ℕ). eqb x 0) s.want ∙ g in
      let on : (x : ℕ) → feds m (x ∷ listened e w r k ws) ≡ record (ends (undone b) FoundWork) { masked = true } =
      λ x. ap (λ (j : EndMachine). fed j x) is ∙ true_is (eqb m.want 0) _ _ none_is in
      record {
        write = loads;
        read = reads;
        mark = marks;
        mark_room = marks_room;
        sleeps = λ z. absurd (apart 13 12 refl z);
        mask = λ _ p. ap (λ (j : EndMachine). next_of j p) is;
        works = λ _ x. (subst (Shows (record e { want = 0; state = 0 })) (sym (on x)) (undone_shows _ refl refl refl refl refl refl none refl refl refl refl), ap (λ (j : EndMachine). j.ended) (on x));
        pending = λ z. absurd (apart 13 20 refl z);
        works_room = λ z. absurd (apart 13 20 refl z);
      }

  by_room : (b : Bool) → eqb e.want 0 ≡ false → feds m (listened e w r k ws) ≡ undone b → ArmEnded e m ws w r k 20 (record e { want = 0; state = 0 })
  by_room b g is =
      let some_is : eqb m.want 0 ≡ false = ap (λ (x : ℕ). eqb x 0) s.want ∙ g in
      let on : (x : ℕ) → feds m (x ∷ listened e w r k ws) ≡ record (undone b) { stage = ArmUndoPending; masked = true } =
      λ x. ap (λ (j : EndMachine). fed j x) is ∙ false_is (eqb m.want 0) _ _ some_is in
      let then : (x y : ℕ) → feds m (y ∷ x ∷ listened e w r k ws) ≡ record (ends (record (undone b) { stage = ArmUndoPending; masked = true }) FoundWork) { want = 0 } =
      λ x y. ap (λ (j : EndMachine). fed j y) (on x) in
      record {
        write = loads;
        read = reads;
        mark = marks;
        mark_room = marks_room;
        sleeps = λ z. absurd (apart 20 12 refl z);
        mask = λ _ p. ap (λ (j : EndMachine). next_of j p) is;
        works = λ z. absurd (apart 20 13 refl z);
        pending = λ _ x p. ap (λ (j : EndMachine). next_of j p) (on x);
        works_room = λ _ x y. (subst (Shows (record e { want = 0; state = 0 })) (sym (then x y)) (undone_shows _ refl refl refl refl refl refl refl refl refl refl refl), ap (λ (j : EndMachine). j.ended) (then x y));
      }

  abbrev works_in : Bool → Bool → Bool → Bool → Bool
  works_in a b c d = cond a (cond b (not d) (c || not d)) true

  abbrev says_in : Bool → Bool → Bool → Bool → ℕ
  says_in a b c d = cond (works_in a b c d) (cond b 13 20) 12

  abbrev ends_in : Bool → Bool → Bool → Bool → PlanEnd
  ends_in a b c d = cond (works_in a b c d) (record e { want = 0; state = 0 }) (record e { state = 6 })

  by_tests : (a b c d : Bool) → eqb w (8 * e.read) ≡ a → eqb e.want 0 ≡ b → has_room e r ≡ c → eqb k 0 ≡ d → ArmEnded e m ws w r k (says_in a b c d) (ends_in a b c d)
  by_tests false true c d h g o f = by_work false g (ap (feds m) (listened_is false true c h g o) ∙ after_write false true h g)
  by_tests false false c d h g o f = by_room false g (ap (feds m) (listened_is false false c h g o) ∙ after_write false false h g)
  by_tests true true c true h g o f = by_sleep (ap (feds m) (listened_is true true c h g o) ∙ after_mark true (w ∷ ws) (after_write true true h g) f)
  by_tests true true c false h g o f = by_work true g (ap (feds m) (listened_is true true c h g o) ∙ after_mark false (w ∷ ws) (after_write true true h g) f)
  by_tests true false true d h g o f = by_room false g (ap (feds m) (listened_is true false true h g o) ∙ after_read true h g o)
  by_tests true false false true h g o f = by_sleep (ap (feds m) (listened_is true false false h g o) ∙ after_mark true (r ∷ w ∷ ws) (after_read false h g o) f)
  by_tests true false false false h g o f = by_room true g (ap (feds m) (listened_is true false false h g o) ∙ after_mark false (r ∷ w ∷ ws) (after_read false h g o) f)

pub ended_as : (e : PlanEnd) (w r k a : ℕ) (n : PlanEnd) → w < 2 ^ 32 → a ≡ armed_says e w r k → n ≡ armed_end e w r k → (m : EndMachine) → Shows e m → a ≢ 0 → (ws : List ℕ) → length ws ≡ cond (eqb e.want 0) 1 2 → ArmEnded e m ws w r k a n
ended_as e w r k a n small says end m s used ws size = by_can (is_at 5 e) refl
  where
    by_can : (b : Bool) → is_at 5 e ≡ b → ArmEnded e m ws w r k a n
    by_can false g = absurd (used (says ∙ false_is (is_at 5 e) _ _ g))
    by_can true g =
        let five : e.state ≡ 5 = (state_is e 5 (is_formed e) g).0 in
        subst (λ (x : ℕ). ArmEnded e m ws w r k x n) (sym (says ∙ true_is (is_at 5 e) _ _ g))
        (subst (λ (x : PlanEnd). ArmEnded e m ws w r k (cond (finds_work e w r k) (cond (eqb e.want 0) 13 20) 12) x) (sym (end ∙ true_is (is_at 5 e) _ _ g))
        (by_tests e m ws w r k s five size small (eqb w (8 * e.read)) (eqb e.want 0) (has_room e r) (eqb k 0) refl refl refl refl))

-- Polls
abbrev polling : EndMachine → EndMachine
polling m = record (poll_begun m) { stage = PollMask; asleep = false }

flags_six : (a b : Bool) → cond {A = ℕ} a 7 (cond b 6 0) ≡ 6 → (a ≡ false) × (b ≡ true)
flags_six true b h = absurd (cc)
flags_six false true h = (refl, refl)
flags_six false false h = absurd (cc)

module _ (e : PlanEnd) (m : EndMachine) (v : ℕ) (s : Shows e m) (six : e.state ≡ 6) where
  idle_is : m.stage ≡ Idle
  idle_is = asleep_at m.stage m (s.state ∙ six)

  unmarked_is : m.marked ≡ false
  unmarked_is = unmarked e m 6 s six refl

  sleeps_on : Shows (record e { len = 0 }) (ends (poll_begun m) NoSignal)
  sleeps_on = record { cells = s.cells; write = s.write; read = s.read; start = s.start; seen = s.seen; len = refl; want = s.want; state = sym (ap (λ (st : Stage). state_at st m) idle_is) ∙ s.state; done = refl; asleep = s.asleep; marked = s.marked }

  woken : (x : EndMachine) → x.cells ≡ m.cells → x.write ≡ m.write → x.read ≡ m.read → x.start ≡ m.start → x.seen ≡ m.seen → x.len ≡ 0 → x.want ≡ 0 → x.stage ≡ Idle → x.done ≡ 0 → x.asleep ≡ false → x.marked ≡ m.marked → Shows (record e { len = 0; want = 0; state = 0 }) x
  woken x c wr rd t se l wa st d a n = record { cells = c ∙ s.cells; write = wr ∙ s.write; read = rd ∙ s.read; start = t ∙ s.start; seen = se ∙ s.seen; len = l; want = wa; state = ap (λ (z : Stage). state_at z x) st ∙ idle_shows x a (n ∙ unmarked_is); done = d; asleep = a; marked = n ∙ unmarked_is }

  poll_by : (a b : Bool) → eqb v 0 ≡ a → eqb e.want 0 ≡ b → PollEnded m v (cond a 14 (cond b 15 21)) (cond a (record e { len = 0 }) (record e { len = 0; want = 0; state = 0 }))
  poll_by true b h g =
      let is : fed (poll_begun m) v ≡ ends (poll_begun m) NoSignal = true_is (eqb v 0) _ _ h in
      record {
        takes = λ p. refl;
        sleeps = λ _. (subst (Shows (record e { len = 0 })) (sym is) sleeps_on, ap (λ (j : EndMachine). j.ended) is);
        mask = λ z. absurd (not_woken z);
        works = λ z. absurd (apart 14 15 refl z);
        pending = λ z. absurd (apart 14 21 refl z);
        works_room = λ z. absurd (apart 14 21 refl z);
      }
  poll_by false true h g =
      let is : fed (poll_begun m) v ≡ polling m = false_is (eqb v 0) _ _ h in
      let none : m.want ≡ 0 = s.want ∙ (grind (arith, nat_tests, g)) in
      let on : (x : ℕ) → feds (poll_begun m) (x ∷ v ∷ []) ≡ record (ends (polling m) Woke) { masked = true } =
      λ x. ap (λ (j : EndMachine). fed j x) is ∙ true_is (eqb m.want 0) _ _ (ap (λ (y : ℕ). eqb y 0) s.want ∙ g) in
      record {
        takes = λ p. refl;
        sleeps = λ z. absurd (apart 15 14 refl z);
        mask = λ _ p. ap (λ (j : EndMachine). next_of j p) is;
        works = λ _ x. (subst (Shows (record e { len = 0; want = 0; state = 0 })) (sym (on x)) (woken _ refl refl refl refl refl refl none refl refl refl refl), ap (λ (j : EndMachine). j.ended) (on x));
        pending = λ z. absurd (apart 15 21 refl z);
        works_room = λ z. absurd (apart 15 21 refl z);
      }
  poll_by false false h g =
      let is : fed (poll_begun m) v ≡ polling m = false_is (eqb v 0) _ _ h in
      let on : (x : ℕ) → feds (poll_begun m) (x ∷ v ∷ []) ≡ record (polling m) { stage = PollPending; masked = true } =
      λ x. ap (λ (j : EndMachine). fed j x) is ∙ false_is (eqb m.want 0) _ _ (ap (λ (y : ℕ). eqb y 0) s.want ∙ g) in
      let then : (x y : ℕ) → feds (poll_begun m) (y ∷ x ∷ v ∷ []) ≡ record (ends (record (polling m) { stage = PollPending; masked = true }) Woke) { want = 0 } =
      λ x y. ap (λ (j : EndMachine). fed j y) (on x) in
      record {
        takes = λ p. refl;
        sleeps = λ z. absurd (apart 21 14 refl z);
        mask = λ _ p. ap (λ (j : EndMachine). next_of j p) is;
        works = λ z. absurd (apart 21 15 refl z);
        pending = λ _ x p. ap (λ (j : EndMachine). next_of j p) (on x);
        works_room = λ _ x y. (subst (Shows (record e { len = 0; want = 0; state = 0 })) (sym (then x y)) (woken _ refl refl refl refl refl refl refl refl refl refl refl), ap (λ (j : EndMachine). j.ended) (then x y));
      }

pub polled_as : (e : PlanEnd) (v a : ℕ) (n : PlanEnd) → a ≡ polled_says e v → n ≡ polled_end e v → (m : EndMachine) → Shows e m → a ≢ 0 → PollEnded m v a n
polled_as e v a n says end m s used = by_can (is_at 6 e) refl
  where
    by_can : (b : Bool) → is_at 6 e ≡ b → PollEnded m v a n
    by_can false g = absurd (used (says ∙ false_is (is_at 6 e) _ _ g))
    by_can true g =
        let six : e.state ≡ 6 = (state_is e 6 (is_formed e) g).0 in
        subst (λ (x : ℕ). PollEnded m v x n) (sym (says ∙ true_is (is_at 6 e) _ _ g))
        (subst (λ (x : PlanEnd). PollEnded m v (cond (eqb v 0) 14 (cond (eqb e.want 0) 15 21)) x) (sym (end ∙ true_is (is_at 6 e) _ _ g))
        (poll_by e m v s six (eqb v 0) (eqb e.want 0) refl refl))

-- The mark
pub said_as : (e : PlanEnd) (a : ℕ) (n : PlanEnd) → a ≡ commit_says e → n ≡ marked_end e → (m : EndMachine) → Shows e m → a ≢ 0 → MarkSaid m n
said_as e a n says end m s used = by_can (is_at 0 e) refl
  where
    by_can : (b : Bool) → is_at 0 e ≡ b → MarkSaid m n
    by_can false g = absurd (used (says ∙ false_is (is_at 0 e) _ _ g))
    by_can true g =
        let z : e.state ≡ 0 = (state_is e 0 (is_formed e) g).0 in
        subst (MarkSaid m) (sym (end ∙ true_is (is_at 0 e) _ _ g))
        (record {
          mark = λ p. refl;
          raise = λ x p. refl;
          shows = λ x y. (record { cells = s.cells; write = s.write; read = s.read; start = s.start; seen = s.seen; len = refl; want = s.want; state = refl; done = refl; asleep = awake e m 0 s z refl; marked = refl }, refl);
        })
