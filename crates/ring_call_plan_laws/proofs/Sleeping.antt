-- A whole arm by plans.
use Rattle.std.proofs.Common.{◌≡◌, ◌≢◌, ◌⊎◌, inl, inr, ℕ, ◌*◌, ◌<◌, ◌^◌, Bool, true, false, ◌||◌, not, cond, eqb, List, [], ◌∷◌, length, Some, refl, sym, ap, ◌∙◌, subst, arith}
use Rattle.std.proofs.lemmas.Bool.Decides.{nat_tests}
use Rattle.io_edge.specs.declared.side.Side.{Side}
use Rattle.ring_machine.specs.declared.machine.EndMachine.{EndMachine}
use Rattle.ring_machine.specs.declared.machine.Ending.TheVariants.{FellAsleep, FoundWork}
use Rattle.ring_machine.specs.declared.place.Place.TheVariants.{Write, Read, Mask, Pending, Mark}
use Rattle.ring_machine.specs.declared.place.Op.TheVariants.{Load, Store}
use Rattle.ring_machine.specs.Places.{in_of, out_of, peer_of}
use Rattle.ring_machine.specs.Steps.{next_of, arm_begun}
use Rattle.ring_call_plan.specs.declared.end.PlanEnd.{PlanEnd}
use Rattle.ring_call_plan.specs.Numbers.{is_at, is_formed, can_arm, arm_says, arm_end, has_room, finds_work, armed_says, armed_end}
use Rattle.ring_call_plan.specs.Plans.{ArmBegun, ArmEnded, listened}
use Rattle.ring_call_plan.specs.Shown.{Shows, feds}
use Rattle.ring_call_plan.proofs.Parts.{apart, true_is, false_is}
use Rattle.ring_call_plan.proofs.Sleeps.{begun_as, ended_as}
use Rattle.ring_call_plan_laws.specs.Accesses.{Access, loaded, made, answers}
use Rattle.ring_call_plan_laws.specs.Whole.{wakes_after, arm_stores, arm_looks}
use Rattle.ring_call_plan_laws.proofs.Walks.{AreMachineSteps, Walk, walk_by}

pub arm_form : (e : PlanEnd) (want : ℕ) → can_arm e want ≡ true → is_formed e ≡ true
arm_form e want h = grind (arith, nat_tests, h)

abbrev works_in : Bool → Bool → Bool → Bool → Bool
works_in a b c d = cond a (cond b (not d) (c || not d)) true

abbrev pub arm_word : Bool → Bool → ℕ
arm_word f b = cond f (cond b 13 20) 12

pub some_arm : (f b : Bool) → arm_word f b ≡ 0 → ⊥
some_arm true true h = cc
some_arm _ _ h = cc

not_zero : (n : ℕ) → eqb n 0 ≡ false → n ≢ 0
not_zero n h z = let t : eqb n 0 ≡ true = grind (arith, nat_tests, z) in let no : true ≡ false = sym t ∙ h in cc

module _ (e : PlanEnd) (m : EndMachine) (want w r k : ℕ) (s : Shows e m) (small : w < 2 ^ 32) (can : can_arm e want ≡ true) where
  abbrev y : Side
  y = m.side

  abbrev on : PlanEnd
  on = record e { len = 0; want = want; state = 5 }

  on_is : arm_end e want ≡ on
  on_is = true_is (can_arm e want) _ _ can

  on_at : is_at 5 on ≡ true
  on_at = grind (arith, nat_tests, can)

  used : arm_says e want ≢ 0
  used z = apart 19 0 refl (sym (true_is (can_arm e want) _ _ can) ∙ z)

  abbrev began : EndMachine
  began = arm_begun m want

  ab : ArmBegun m want on
  ab = begun_as e want (arm_says e want) on refl (sym on_is) m s used

  word_is : armed_says on w r k ≡ arm_word (finds_work on w r k) (eqb want 0)
  word_is = true_is (is_at 5 on) _ _ on_at

  abbrev after : PlanEnd
  after = armed_end on w r k

  after_is : after ≡ cond (finds_work on w r k) (record on { want = 0; state = 0 }) (record on { state = 6 })
  after_is = true_is (is_at 5 on) _ _ on_at

  module _ (ws : List ℕ) (stores : List Access) (steps : AreMachineSteps began [] stores) (same : answers stores ≡ ws) (size : length ws ≡ cond (eqb want 0) 1 2) where
    ae : ArmEnded on began ws w r k (armed_says on w r k) after
    ae = ended_as on w r k (armed_says on w r k) after small refl refl began ab.shows (λ z. some_arm (finds_work on w r k) (eqb want 0) (sym word_is ∙ z)) ws size

    abbrev heard : List ℕ
    heard = listened on w r k ws

    -- the looks, by their tests
    abbrev looks : Bool → Bool → Bool → List Access
    looks a b c =
        cond a (cond b (loaded (Mark (peer_of y)) k ∷ loaded (Write (in_of y)) w ∷ stores) (cond c (loaded (Read (out_of y)) r ∷ loaded (Write (in_of y)) w ∷ stores) (loaded (Mark (peer_of y)) k ∷ loaded (Read (out_of y)) r ∷ loaded (Write (in_of y)) w ∷ stores))) (loaded (Write (in_of y)) w ∷ stores)

    abbrev hears : Bool → Bool → Bool → List ℕ
    hears a b c = cond a (cond b (k ∷ w ∷ ws) (cond c (r ∷ w ∷ ws) (k ∷ r ∷ w ∷ ws))) (w ∷ ws)

    looks_heard : (a b c : Bool) → answers (looks a b c) ≡ hears a b c
    looks_heard true true c = ap (λ (us : List ℕ). k ∷ w ∷ us) same
    looks_heard true false true = ap (λ (us : List ℕ). r ∷ w ∷ us) same
    looks_heard true false false = ap (λ (us : List ℕ). k ∷ r ∷ w ∷ us) same
    looks_heard false b c = ap (λ (us : List ℕ). w ∷ us) same

    write_step : next_of (feds began (answers stores)) [] ≡ Some (Load (Write (in_of y)))
    write_step = ap (λ (us : List ℕ). next_of (feds began us) []) same ∙ ae.write []

    is_same : eqb w (8 * e.read) ≡ true → w ≡ 8 * e.read
    is_same h = grind (arith, nat_tests, h)

    is_none : eqb want 0 ≡ true → want ≡ 0
    is_none h = grind (arith, nat_tests, h)

    looks_steps : (a b c : Bool) → eqb w (8 * e.read) ≡ a → eqb want 0 ≡ b → has_room on r ≡ c → AreMachineSteps began [] (looks a b c)
    looks_steps true true c h g o = (ap (λ (us : List ℕ). next_of (feds began (w ∷ us)) []) same ∙ ae.mark (is_same h) (is_none g) [], (write_step, steps))
    looks_steps true false true h g o = (ap (λ (us : List ℕ). next_of (feds began (w ∷ us)) []) same ∙ ae.read (is_same h) (not_zero want g) [], (write_step, steps))
    looks_steps true false false h g o = (
      ap (λ (us : List ℕ). next_of (feds began (r ∷ w ∷ us)) []) same ∙ ae.mark_room (is_same h) (not_zero want g) o [],
      (ap (λ (us : List ℕ). next_of (feds began (w ∷ us)) []) same ∙ ae.read (is_same h) (not_zero want g) [], (write_step, steps)),
    )
    looks_steps false b c h g o = (write_step, steps)

    abbrev seen : List Access
    seen = looks (eqb w (8 * e.read)) (eqb want 0) (has_room on r)

    seen_heard : answers seen ≡ heard
    seen_heard = looks_heard (eqb w (8 * e.read)) (eqb want 0) (has_room on r)

    seen_steps : AreMachineSteps began [] seen
    seen_steps = looks_steps (eqb w (8 * e.read)) (eqb want 0) (has_room on r) refl refl refl

    mask_step : (armed_says on w r k ≡ 13) ⊎ (armed_says on w r k ≡ 20) → next_of (feds began (answers seen)) [] ≡ Some (Store (Mask (in_of y)) 1)
    mask_step one = ap (λ (us : List ℕ). next_of (feds began us) []) seen_heard ∙ ae.mask one []

    state_in : (f : Bool) → finds_work on w r k ≡ f → after.state ≡ cond f 0 6
    state_in true h = ap (λ (u : PlanEnd). u.state) (after_is ∙ true_is (finds_work on w r k) _ _ h)
    state_in false h = ap (λ (u : PlanEnd). u.state) (after_is ∙ false_is (finds_work on w r k) _ _ h)

    by_tests : (f b : Bool) → finds_work on w r k ≡ f → eqb want 0 ≡ b → armed_says on w r k ≡ arm_word f b → Walk began [] (wakes_after y 13 20 (arm_word f b) seen) after (arm_word f b)
    by_tests false b h g is = walk_by _ _ seen after (feds began heard) 12 6 FellAsleep seen_steps (ap (feds began) seen_heard) (ae.sleeps is) (state_in false h) refl refl
    by_tests true true h g is =
        walk_by _ _ (made (Store (Mask (in_of y)) 1) ∷ seen) after (feds began (0 ∷ heard)) 13 0 FoundWork (mask_step (inl is), seen_steps) (ap (λ (us : List ℕ). feds began (0 ∷ us)) seen_heard) (ae.works is 0) (state_in true h) refl refl
    by_tests true false h g is =
        walk_by _ _ (made (Store (Pending (out_of y)) 0) ∷ made (Store (Mask (in_of y)) 1) ∷ seen) after (feds began (0 ∷ 0 ∷ heard)) 20 0 FoundWork
        (ap (λ (us : List ℕ). next_of (feds began (0 ∷ us)) []) seen_heard ∙ ae.pending is 0 [], (mask_step (inr is), seen_steps))
        (ap (λ (us : List ℕ). feds began (0 ∷ 0 ∷ us)) seen_heard) (ae.works_room is 0 0) (state_in true h) refl refl

    on_walk : Walk began [] (wakes_after y 13 20 (armed_says on w r k) (arm_looks y on w r k stores)) after (armed_says on w r k)
    on_walk = subst (λ (a : ℕ). Walk began [] (wakes_after y 13 20 a seen) after a) (sym word_is) (by_tests (finds_work on w r k) (eqb want 0) refl refl word_is)

  stores_walk : (b : Bool) → eqb want 0 ≡ b → Walk began [] (wakes_after y 13 20 (armed_says on w r k) (arm_looks y on w r k (cond b (made (Store (Mask (in_of y)) 0) ∷ []) (made (Store (Mask (in_of y)) 0) ∷ made (Store (Pending (out_of y)) want) ∷ [])))) after (armed_says on w r k)
  stores_walk true g =
      on_walk (0 ∷ []) (made (Store (Mask (in_of y)) 0) ∷ []) (ab.mask [] [] (ap (λ (t : Bool). cond {A = ℕ} t 0 1) (sym g)), tt) refl (ap (λ (t : Bool). cond {A = ℕ} t 1 2) (sym g))
  stores_walk false g =
      on_walk (0 ∷ 0 ∷ []) (made (Store (Mask (in_of y)) 0) ∷ made (Store (Pending (out_of y)) want) ∷ [])
      (ab.mask (0 ∷ []) [] (ap (λ (t : Bool). cond {A = ℕ} t 0 1) (sym g)), (ab.pending (not_zero want g) [], tt)) refl (ap (λ (t : Bool). cond {A = ℕ} t 1 2) (sym g))

  pub arm_walk : Walk began [] (wakes_after y 13 20 (armed_says (arm_end e want) w r k) (arm_looks y (arm_end e want) w r k (arm_stores y want))) (armed_end (arm_end e want) w r k) (armed_says (arm_end e want) w r k)
  arm_walk = subst (λ (u : PlanEnd). Walk began [] (wakes_after y 13 20 (armed_says u w r k) (arm_looks y u w r k (arm_stores y want))) (armed_end u w r k) (armed_says u w r k)) (sym on_is) (stores_walk (eqb want 0) refl)
