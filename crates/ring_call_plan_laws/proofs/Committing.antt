-- A whole commit by plans, and a mark.
use Rattle.std.proofs.Common.{◌≡◌, ◌≢◌, ℕ, ◌%◌, ◌<◌, ◌^◌, ◌==◌, Bool, true, false, cond, eqb, List, [], ◌∷◌, Some, refl, sym, ap, ◌∙◌, subst, arith}
use Rattle.std.proofs.lemmas.Bool.Decides.{nat_tests}
use Rattle.io_edge.specs.declared.side.Side.{Side}
use Rattle.ring_machine.specs.declared.machine.EndMachine.{EndMachine}
use Rattle.ring_machine.specs.declared.machine.Ending.{Ending}
use Rattle.ring_machine.specs.declared.machine.Ending.TheVariants.{CommittedQuiet, CommittedRaised}
use Rattle.ring_machine.specs.declared.place.Place.TheVariants.{Write, Read, Pending, Feature}
use Rattle.ring_machine.specs.declared.place.Op.TheVariants.{Store, Raise, StoreMark}
use Rattle.ring_machine.specs.Places.{in_of, peer_of}
use Rattle.ring_machine.specs.Steps.{next_of, commit_begun, mark_begun}
use Rattle.ring_call_plan.specs.declared.end.PlanEnd.{PlanEnd}
use Rattle.ring_call_plan.specs.Answers.{number_of_ending}
use Rattle.ring_call_plan.specs.Numbers.{is_at, commit_says, commit_end, commit_index, gives_room, given_says, given_end, marked_end}
use Rattle.ring_call_plan.specs.Plans.{CommitBegun, CommitEnded, MarkSaid, heard}
use Rattle.ring_call_plan.specs.Shown.{Shows, feds}
use Rattle.ring_call_plan.proofs.Parts.{apart, true_is}
use Rattle.ring_call_plan.proofs.Commits.{begun_as, ended_as}
use Rattle.ring_call_plan.proofs.Sleeps.{said_as}
use Rattle.ring_call_plan_laws.specs.Accesses.{Access, loaded, made, answers}
use Rattle.ring_call_plan_laws.specs.Whole.{plain, raise_after, commit_accesses}
use Rattle.ring_call_plan_laws.proofs.Walks.{AreMachineSteps, Walk, walk_by, over_by}

abbrev pub given_word : Bool → Bool → Bool → ℕ
given_word a b c = cond a (cond b 10 (cond c 11 10)) 10

pub some_given : (a b c : Bool) → given_word a b c ≡ 0 → ⊥
some_given true false true h = cc
some_given _ _ _ h = cc

module _ (e : PlanEnd) (m : EndMachine) (f q v : ℕ) (s : Shows e m) (small : f < 2 ^ 32) (small' : q < 2 ^ 32) (small'' : v < 2 ^ 32) (can : is_at 0 e ≡ true) where
  abbrev y : Side
  y = m.side

  abbrev on : PlanEnd
  on = record e { len = 0; state = 4 }

  on_is : commit_end e ≡ on
  on_is = true_is (is_at 0 e) _ _ can

  on_at : is_at 4 on ≡ true
  on_at = grind (arith, nat_tests, can)

  used : commit_says e ≢ 0
  used z = apart 19 0 refl (sym (true_is (is_at 0 e) _ _ can) ∙ z)

  cb : CommitBegun m on (commit_index e 0)
  cb = begun_as e 0 (commit_says e) on (commit_index e 0) refl (sym on_is) refl m s used

  given_is : given_says on f q v ≡ given_word (eqb (f % 2) 1) (eqb q 0) (gives_room on q v)
  given_is = true_is (is_at 4 on) _ _ on_at

  ce : CommitEnded (commit_begun m) f q v (given_says on f q v) (given_end on)
  ce = ended_as on f q v (given_says on f q v) (given_end on) small small' small'' refl refl (commit_begun m) cb.shows (λ z. some_given (eqb (f % 2) 1) (eqb q 0) (gives_room on q v) (sym given_is ∙ z))

  says_by : (a b c : Bool) → eqb (f % 2) 1 ≡ a → eqb q 0 ≡ b → gives_room on q v ≡ c → given_says on f q v ≡ given_word a b c
  says_by a b c h g o = given_is ∙ (λ i. given_word (h i) (g i) (o i))

  heard_by : (a b : Bool) → eqb (f % 2) 1 ≡ a → eqb q 0 ≡ b → heard f q v 0 ≡ cond a (cond b (q ∷ f ∷ 0 ∷ []) (v ∷ q ∷ f ∷ 0 ∷ [])) (f ∷ 0 ∷ [])
  heard_by a b h g = λ i. cond (h i) (cond (g i) (q ∷ f ∷ 0 ∷ []) (v ∷ q ∷ f ∷ 0 ∷ [])) (f ∷ 0 ∷ [])

  abbrev one : List Access
  one = loaded (Feature (in_of y)) f ∷ made (Store (Read (in_of y)) (commit_index e 0)) ∷ []

  abbrev two : List Access
  two = loaded (Pending (in_of y)) q ∷ one

  abbrev three : List Access
  three = loaded (Write (in_of y)) v ∷ two

  odd : eqb (f % 2) 1 ≡ true → f % 2 ≡ 1
  odd h = grind (arith, nat_tests, h)

  one_steps : AreMachineSteps (commit_begun m) [] one
  one_steps = (ce.feature 0 [], (cb.store [], tt))

  two_steps : eqb (f % 2) 1 ≡ true → AreMachineSteps (commit_begun m) [] two
  two_steps h = (ce.pending (odd h) 0 [], one_steps)

  three_steps : eqb (f % 2) 1 ≡ true → eqb q 0 ≡ false → AreMachineSteps (commit_begun m) [] three
  three_steps h g = (ce.write (odd h) (λ z. let t : eqb q 0 ≡ true = grind (arith, nat_tests, z) in let no : true ≡ false = sym t ∙ g in cc) 0 [], two_steps h)

  rest_state : (given_end on).state ≡ 0
  rest_state = ap (λ (u : PlanEnd). u.state) (true_is (is_at 4 on) (record on { start = e.read; state = 0 }) on on_at)

  ended : (acts : List Access) (us : List ℕ) (a : ℕ) (how : Ending) → AreMachineSteps (commit_begun m) [] acts → us ≡ answers acts → Shows (given_end on) (feds (commit_begun m) us) × ((feds (commit_begun m) us).ended ≡ how)
      → plain a ≡ number_of_ending how → Walk (commit_begun m) [] acts (given_end on) a
  ended acts us a how steps same t says' = walk_by _ _ acts (given_end on) (feds (commit_begun m) us) a 0 how steps (ap (feds (commit_begun m)) (sym same)) t rest_state refl says'

  by_tests : (a b c : Bool) → eqb (f % 2) 1 ≡ a → eqb q 0 ≡ b → gives_room on q v ≡ c → Walk (commit_begun m) [] (raise_after y (given_word a b c == 11) (cond a (cond b two three) one)) (given_end on) (given_word a b c)
  by_tests false b c h g o = ended one (heard f q v 0) 10 CommittedQuiet one_steps (heard_by false b h g) (ce.quiet (says_by false b c h g o) 0) refl
  by_tests true true c h g o = ended two (heard f q v 0) 10 CommittedQuiet (two_steps h) (heard_by true true h g) (ce.quiet (says_by true true c h g o) 0) refl
  by_tests true false false h g o = ended three (heard f q v 0) 10 CommittedQuiet (three_steps h g) (heard_by true false h g) (ce.quiet (says_by true false false h g o) 0) refl
  by_tests true false true h g o =
      let raises : given_says on f q v ≡ 11 = says_by true false true h g o in
      let same : heard f q v 0 ≡ answers three = heard_by true false h g in
      ended (made (Raise (peer_of y)) ∷ three) (0 ∷ heard f q v 0) 11 CommittedRaised
      (subst (λ (us : List ℕ). next_of (feds (commit_begun m) us) [] ≡ Some (Raise (peer_of y))) same (ce.raise raises 0 []), three_steps h g)
      (ap (λ (us : List ℕ). 0 ∷ us) same) (ce.raised raises 0 0) refl

  pub commit_walk : Walk (commit_begun m) [] (commit_accesses y e f q v) (given_end (commit_end e)) (given_says (commit_end e) f q v)
  commit_walk =
      subst (λ (u : PlanEnd). Walk (commit_begun m) [] (raise_after y (given_says u f q v == 11) (cond (eqb (f % 2) 1) (cond (eqb q 0) two three) one)) (given_end u) (given_says u f q v)) (sym on_is)
      (subst (λ (a : ℕ). Walk (commit_begun m) [] (raise_after y (a == 11) (cond (eqb (f % 2) 1) (cond (eqb q 0) two three) one)) (given_end on) a) (sym given_is)
      (by_tests (eqb (f % 2) 1) (eqb q 0) (gives_room on q v) refl refl refl))

pub mark_walk : (e : PlanEnd) (m : EndMachine) → Shows e m → is_at 0 e ≡ true → Walk (mark_begun m) [] (made (Raise (peer_of m.side)) ∷ made (StoreMark m.side) ∷ []) (marked_end e) (cond (commit_says e == 19) 16 0)
mark_walk e m s can =
    let says : commit_says e ≡ 19 = true_is (is_at 0 e) 19 0 can in
    let ms : MarkSaid m (marked_end e) = said_as e (commit_says e) (marked_end e) refl refl m s (λ z. apart 19 0 refl (sym says ∙ z)) in
    let t = ms.shows 0 0 in
    let state : (marked_end e).state ≡ 7 = ap (λ (u : PlanEnd). u.state) (true_is (is_at 0 e) (record e { len = 0; state = 7 }) e can) in
    record {
      steps = (ms.raise 0 [], (ms.mark [], tt));
      shows = t.0;
      over = over_by (marked_end e) (feds (mark_begun m) (0 ∷ 0 ∷ [])) 7 t.0 state refl;
      says = ap plain (true_is (eqb (commit_says e) 19) 16 0 (grind (arith, nat_tests, says))) ∙ ap number_of_ending (sym t.1);
    }
