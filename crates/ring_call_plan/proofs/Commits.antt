-- A planned commit is that of the machine.
use Rattle.std.proofs.Common.{◌≡◌, ◌≢◌, ℕ, ◌*◌, ◌%◌, ◌<◌, ◌^◌, Bool, true, false, ◌&&◌, cond, eqb, [], ◌∷◌, Some, refl, sym, ap, ◌∙◌, subst, arith}
use Rattle.std.proofs.lemmas.Bool.Decides.{nat_tests}
use Rattle.ring_machine.specs.declared.machine.Stage.{Stage}
use Rattle.ring_machine.specs.declared.machine.Stage.TheVariants.{Idle, CommitFeature, CommitPending, CommitWrite, CommitRaise}
use Rattle.ring_machine.specs.declared.machine.Ending.TheVariants.{CommittedQuiet, CommittedRaised}
use Rattle.ring_machine.specs.declared.machine.EndMachine.{EndMachine}
use Rattle.ring_machine.specs.declared.place.Place.TheVariants.{Read}
use Rattle.ring_machine.specs.declared.place.Op.TheVariants.{Store}
use Rattle.ring_machine.specs.Places.{in_of, is_index, low, raises_on_commit}
use Rattle.ring_machine.specs.Steps.{fed, fed_at, ends, next_of, makes_room}
use Rattle.ring_call_plan.specs.declared.end.PlanEnd.{PlanEnd}
use Rattle.ring_call_plan.specs.Numbers.{is_formed, is_at, commit_says, commit_end, commit_index, gives_room, given_says, given_end}
use Rattle.ring_call_plan.specs.Shown.{state_at, Shows, feds}
use Rattle.ring_call_plan.specs.Plans.{CommitBegun, CommitEnded, heard}
use Rattle.ring_call_plan.proofs.Parts.{apart, true_is, false_is, giving_at, state_is, awake, unmarked, idle_shows, low_is}

begun : (e : PlanEnd) (m : EndMachine) → Shows e m → is_at 0 e ≡ true → CommitBegun m (record e { len = 0; state = 4 }) (8 * e.read)
begun e m s can =
    let z : e.state ≡ 0 = (state_is e 0 (is_formed e) can).0 in
    record {
      shows = record { cells = s.cells; write = s.write; read = s.read; start = s.start; seen = s.seen; len = refl; want = s.want; state = refl; done = refl; asleep = awake e m 0 s z refl; marked = unmarked e m 0 s z refl };
      store = λ p. λ i. Some (Store (Read (in_of m.side)) (8 * s.read i));
    }

pub begun_as : (e : PlanEnd) (i a : ℕ) (n : PlanEnd) (j : ℕ) → a ≡ commit_says e → n ≡ commit_end e → j ≡ commit_index e i → (m : EndMachine) → Shows e m → a ≢ 0 → CommitBegun m n j
begun_as e i a n j says end index m s used = by_can (is_at 0 e) refl
  where
    by_can : (b : Bool) → is_at 0 e ≡ b → CommitBegun m n j
    by_can false g = absurd (used (says ∙ false_is (is_at 0 e) _ _ g))
    by_can true g =
        subst (λ (x : PlanEnd). CommitBegun m x j) (sym (end ∙ true_is (is_at 0 e) _ _ g))
        (subst (λ (x : ℕ). CommitBegun m (record e { len = 0; state = 4 }) x) (sym (index ∙ true_is (is_at 0 e) _ _ g)) (begun e m s g))

-- The end of a commit
abbrev given : EndMachine → EndMachine
given m = record m { stage = CommitFeature; old = m.start; start = m.read }

abbrev pending_at : EndMachine → EndMachine
pending_at m = record (given m) { stage = CommitPending }

abbrev writing_at : EndMachine → ℕ → EndMachine
writing_at m q = record (given m) { stage = CommitWrite; value = q }

abbrev given_to : PlanEnd → PlanEnd
given_to e = record e { start = e.read; state = 0 }

abbrev words : Bool → Bool → Bool → ℕ
words a b c = cond a (cond b 10 (cond c 11 10)) 10

module _ (e : PlanEnd) (m : EndMachine) (f q v : ℕ) (s : Shows e m) (four : e.state ≡ 4) (small : f < 2 ^ 32) (small' : q < 2 ^ 32) (small'' : v < 2 ^ 32) where
  asleep_is : m.asleep ≡ false
  asleep_is = awake e m 4 s four refl

  marked_is : m.marked ≡ false
  marked_is = unmarked e m 4 s four refl

  given_is : (x : ℕ) → feds m (x ∷ []) ≡ given m
  given_is x = ap (λ (st : Stage). fed_at st m x) (giving_at m.stage m (s.state ∙ four))

  feature_same : eqb (f % 2) 1 ≡ eqb (low f % 2) 1
  feature_same = λ i. eqb (sym (low_is f small) i % 2) 1

  pending_same : eqb q 0 ≡ eqb (low q) 0
  pending_same = ap (λ (y : ℕ). eqb y 0) (sym (low_is q small'))

  room_same : gives_room e q v ≡ makes_room (writing_at m q) v
  room_same = λ i. is_index (sym s.cells i) v && raises_on_commit (8 * sym s.cells i) (sym (low_is v small'') i) (8 * sym s.start i) (8 * sym s.read i) q

  after_feature : (b : Bool) (x : ℕ) → eqb (f % 2) 1 ≡ b → feds m (f ∷ x ∷ []) ≡ cond b (pending_at m) (ends (given m) CommittedQuiet)
  after_feature b x h = ap (λ (k : EndMachine). fed k f) (given_is x) ∙ ap (λ (t : Bool). cond t (pending_at m) (ends (given m) CommittedQuiet)) (sym feature_same ∙ h)

  after_pending : (b : Bool) (x : ℕ) → eqb (f % 2) 1 ≡ true → eqb q 0 ≡ b → feds m (q ∷ f ∷ x ∷ []) ≡ cond b (ends (pending_at m) CommittedQuiet) (writing_at m q)
  after_pending b x h g = ap (λ (k : EndMachine). fed k q) (after_feature true x h) ∙ (λ i. cond ((sym pending_same ∙ g) i) (ends (pending_at m) CommittedQuiet) (writing_at m (low_is q small' i)))

  after_write : (b : Bool) (x : ℕ) → eqb (f % 2) 1 ≡ true → eqb q 0 ≡ false → gives_room e q v ≡ b → feds m (v ∷ q ∷ f ∷ x ∷ []) ≡ cond b (record (writing_at m q) { stage = CommitRaise }) (ends (writing_at m q) CommittedQuiet)
  after_write b x h g w = ap (λ (k : EndMachine). fed k v) (after_pending false x h g) ∙ ap (λ (t : Bool). cond t (record (writing_at m q) { stage = CommitRaise }) (ends (writing_at m q) CommittedQuiet)) (sym room_same ∙ w)

  heard_is : (a b : Bool) (x : ℕ) → eqb (f % 2) 1 ≡ a → eqb q 0 ≡ b → heard f q v x ≡ cond a (cond b (q ∷ f ∷ x ∷ []) (v ∷ q ∷ f ∷ x ∷ [])) (f ∷ x ∷ [])
  heard_is a b x h g = λ i. cond (h i) (cond (g i) (q ∷ f ∷ x ∷ []) (v ∷ q ∷ f ∷ x ∷ [])) (f ∷ x ∷ [])

  rest_shows : (w : EndMachine) → w.cells ≡ m.cells → w.write ≡ m.write → w.read ≡ m.read → w.start ≡ m.read → w.seen ≡ m.seen → w.len ≡ m.len → w.want ≡ m.want → w.stage ≡ Idle → w.done ≡ 0 → w.asleep ≡ m.asleep → w.marked ≡ m.marked → Shows (given_to e) w
  rest_shows w c wr r t se l wa st d a k = record {
    cells = c ∙ s.cells;
    write = wr ∙ s.write;
    read = r ∙ s.read;
    start = t ∙ s.read;
    seen = se ∙ s.seen;
    len = l ∙ s.len;
    want = wa ∙ s.want;
    state = ap (λ (z : Stage). state_at z w) st ∙ idle_shows w (a ∙ asleep_is) (k ∙ marked_is);
    done = d;
    asleep = a ∙ asleep_is;
    marked = k ∙ marked_is;
  }

  quiet_by : (w : EndMachine) → Shows (given_to e) w → w.ended ≡ CommittedQuiet → ((x : ℕ) → feds m (heard f q v x) ≡ w) → (x : ℕ) → Shows (given_to e) (feds m (heard f q v x)) × ((feds m (heard f q v x)).ended ≡ CommittedQuiet)
  quiet_by w t u is x = (subst (Shows (given_to e)) (sym (is x)) t, ap (λ (k : EndMachine). k.ended) (is x) ∙ u)

  odd_is : f % 2 ≡ 1 → eqb (f % 2) 1 ≡ true
  odd_is h = grind (arith, nat_tests, h)

  some_is : q ≢ 0 → eqb q 0 ≡ false
  some_is h = by_test (eqb q 0) refl
    where
      by_test : (t : Bool) → eqb q 0 ≡ t → eqb q 0 ≡ false
      by_test true i = absurd (h (grind (arith, nat_tests, i)))
      by_test false i = i

  loads : (a : ℕ) → (a ≡ 10 → (x : ℕ) → Shows (given_to e) (feds m (heard f q v x)) × ((feds m (heard f q v x)).ended ≡ CommittedQuiet))
      → (a ≡ 11 → (x : ℕ) → feds m (heard f q v x) ≡ record (writing_at m q) { stage = CommitRaise }) → CommitEnded m f q v a (given_to e)
  loads a quiet raising = record {
    feature = λ x p. ap (λ (k : EndMachine). next_of k p) (given_is x);
    pending = λ h x p. ap (λ (k : EndMachine). next_of k p) (after_feature true x (odd_is h));
    write = λ h g x p. ap (λ (k : EndMachine). next_of k p) (after_pending false x (odd_is h) (some_is g));
    quiet = quiet;
    raise = λ z x p. ap (λ (k : EndMachine). next_of k p) (raising z x);
    raised = λ z x y.
        let is : feds m (y ∷ heard f q v x) ≡ ends (record (writing_at m q) { stage = CommitRaise }) CommittedRaised = ap (λ (k : EndMachine). fed k y) (raising z x) in
        (subst (Shows (given_to e)) (sym is) (rest_shows _ refl refl refl refl refl refl refl refl refl refl refl), ap (λ (k : EndMachine). k.ended) is);
  }

  by_tests : (a b c : Bool) → eqb (f % 2) 1 ≡ a → eqb q 0 ≡ b → gives_room e q v ≡ c → CommitEnded m f q v (words a b c) (given_to e)
  by_tests false b c h g w = loads 10 (λ _. quiet_by (ends (given m) CommittedQuiet) (rest_shows _ refl refl refl refl refl refl refl refl refl refl refl) refl (λ x. ap (feds m) (heard_is false b x h g) ∙ after_feature false x h)) (λ z. absurd (apart 10 11 refl z))
  by_tests true true c h g w = loads 10 (λ _. quiet_by (ends (pending_at m) CommittedQuiet) (rest_shows _ refl refl refl refl refl refl refl refl refl refl refl) refl (λ x. ap (feds m) (heard_is true true x h g) ∙ after_pending true x h g)) (λ z. absurd (apart 10 11 refl z))
  by_tests true false true h g w = loads 11 (λ z. absurd (apart 11 10 refl z)) (λ _ x. ap (feds m) (heard_is true false x h g) ∙ after_write true x h g w)
  by_tests true false false h g w = loads 10 (λ _. quiet_by (ends (writing_at m q) CommittedQuiet) (rest_shows _ refl refl refl refl refl refl refl refl refl refl refl) refl (λ x. ap (feds m) (heard_is true false x h g) ∙ after_write false x h g w)) (λ z. absurd (apart 10 11 refl z))

pub ended_as : (e : PlanEnd) (f q v a : ℕ) (n : PlanEnd) → f < 2 ^ 32 → q < 2 ^ 32 → v < 2 ^ 32 → a ≡ given_says e f q v → n ≡ given_end e → (m : EndMachine) → Shows e m → a ≢ 0 → CommitEnded m f q v a n
ended_as e f q v a n small small' small'' says end m s used = by_can (is_at 4 e) refl
  where
    by_can : (b : Bool) → is_at 4 e ≡ b → CommitEnded m f q v a n
    by_can false g = absurd (used (says ∙ false_is (is_at 4 e) _ _ g))
    by_can true g =
        let four : e.state ≡ 4 = (state_is e 4 (is_formed e) g).0 in
        subst (λ (x : ℕ). CommitEnded m f q v x n) (sym (says ∙ true_is (is_at 4 e) _ _ g))
        (subst (λ (x : PlanEnd). CommitEnded m f q v (words (eqb (f % 2) 1) (eqb q 0) (gives_room e q v)) x) (sym (end ∙ true_is (is_at 4 e) _ _ g))
        (by_tests e m f q v s four small small' small'' (eqb (f % 2) 1) (eqb q 0) (gives_room e q v) refl refl refl))
