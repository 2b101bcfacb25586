-- A poll by plans.
use Rattle.std.proofs.Common.{◌≡◌, inl, inr, ℕ, Bool, true, false, cond, eqb, List, [], ◌∷◌, refl, sym, ap, ◌∙◌, subst}
use Rattle.io_edge.specs.declared.side.Side.{Side}
use Rattle.ring_machine.specs.declared.machine.EndMachine.{EndMachine}
use Rattle.ring_machine.specs.declared.machine.Ending.TheVariants.{NoSignal, Woke}
use Rattle.ring_machine.specs.declared.place.Place.TheVariants.{Mask, Pending}
use Rattle.ring_machine.specs.declared.place.Op.TheVariants.{Store, TakeSignal}
use Rattle.ring_machine.specs.Places.{in_of, out_of}
use Rattle.ring_machine.specs.Steps.{poll_begun}
use Rattle.ring_call_plan.specs.declared.end.PlanEnd.{PlanEnd}
use Rattle.ring_call_plan.specs.Numbers.{is_at, is_formed, polled_says, polled_end}
use Rattle.ring_call_plan.specs.Plans.{PollEnded}
use Rattle.ring_call_plan.specs.Shown.{Shows}
use Rattle.ring_call_plan.proofs.Parts.{true_is, false_is, state_is}
use Rattle.ring_call_plan.proofs.Sleeps.{polled_as}
use Rattle.ring_call_plan_laws.specs.Accesses.{Access, made}
use Rattle.ring_call_plan_laws.specs.Whole.{wakes_after}
use Rattle.ring_call_plan_laws.proofs.Walks.{Walk, walk_by}

abbrev poll_word : Bool → Bool → ℕ
poll_word a b = cond a 14 (cond b 15 21)

some_poll : (a b : Bool) → poll_word a b ≡ 0 → ⊥
some_poll false true h = cc
some_poll _ _ h = cc

module _ (e : PlanEnd) (m : EndMachine) (v : ℕ) (s : Shows e m) (can : is_at 6 e ≡ true) where
  abbrev y : Side
  y = m.side

  word_is : polled_says e v ≡ poll_word (eqb v 0) (eqb e.want 0)
  word_is = true_is (is_at 6 e) _ _ can

  abbrev after : PlanEnd
  after = polled_end e v

  after_is : after ≡ cond (eqb v 0) (record e { len = 0 }) (record e { len = 0; want = 0; state = 0 })
  after_is = true_is (is_at 6 e) _ _ can

  pe : PollEnded m v (polled_says e v) after
  pe = polled_as e v (polled_says e v) after refl refl m s (λ z. some_poll (eqb v 0) (eqb e.want 0) (sym word_is ∙ z))

  abbrev base : List Access
  base = record { op = TakeSignal y; gave = v } ∷ []

  state_in : (f : Bool) → eqb v 0 ≡ f → after.state ≡ cond f 6 0
  state_in true h = ap (λ (u : PlanEnd). u.state) (after_is ∙ true_is (eqb v 0) _ _ h) ∙ (state_is e 6 (is_formed e) can).0
  state_in false h = ap (λ (u : PlanEnd). u.state) (after_is ∙ false_is (eqb v 0) _ _ h)

  by_tests : (a b : Bool) → eqb v 0 ≡ a → polled_says e v ≡ poll_word a b → Walk (poll_begun m) [] (wakes_after y 15 21 (poll_word a b) base) after (poll_word a b)
  by_tests true b h is = walk_by _ _ base after _ 14 6 NoSignal (pe.takes [], tt) refl (pe.sleeps is) (state_in true h) refl refl
  by_tests false true h is = walk_by _ _ (made (Store (Mask (in_of y)) 1) ∷ base) after _ 15 0 Woke (pe.mask (inl is) [], (pe.takes [], tt)) refl (pe.works is 0) (state_in false h) refl refl
  by_tests false false h is =
      walk_by _ _ (made (Store (Pending (out_of y)) 0) ∷ made (Store (Mask (in_of y)) 1) ∷ base) after _ 21 0 Woke (pe.pending is 0 [], (pe.mask (inr is) [], (pe.takes [], tt))) refl (pe.works_room is 0 0) (state_in false h) refl refl

  pub poll_walk : Walk (poll_begun m) [] (wakes_after y 15 21 (polled_says e v) base) after (polled_says e v)
  poll_walk = subst (λ (a : ℕ). Walk (poll_begun m) [] (wakes_after y 15 21 a base) after a) (sym word_is) (by_tests (eqb v 0) (eqb e.want 0) refl word_is)
