-- A whole call stops its end by its cause.
use Rattle.std.proofs.Common.{◌≡◌, ℕ, true, eqb, List, refl, sym, ap, ◌∙◌, subst, arith}
use Rattle.std.proofs.lemmas.Bool.Decides.{nat_tests}
use Rattle.ring_machine.specs.declared.machine.EndMachine.{EndMachine}
use Rattle.ring_machine.specs.declared.machine.Stage.{Stage}
use Rattle.ring_machine.specs.declared.machine.Stage.TheVariants.{Stopped}
use Rattle.ring_machine.specs.declared.last.Why.{Why}
use Rattle.ring_machine.specs.declared.state.EndState.{EndState}
use Rattle.ring_machine.specs.Endings.{why_of}
use Rattle.ring_machine.specs.States.{entered}
use Rattle.ring_machine.specs.Steps.{is_busy_at}
use Rattle.ring_machine.proofs.Sound.{at_cond}
use Rattle.ring_core.specs.Refused.{BreaksIn}
use Rattle.ring_core.proofs.Refused.{caused_in, refused_in}
use Rattle.ring_call_plan.specs.declared.end.PlanEnd.{PlanEnd}
use Rattle.ring_call_plan.specs.Shown.{state_at}
use Rattle.ring_call_plan_laws.specs.Accesses.{answers}
use Rattle.ring_call_plan_laws.specs.Whole.{PlanCall, ArmCall, IsCallOf, accesses, begun_by, end_of, packet_by}

stopped_at : (st : Stage) (m : EndMachine) → state_at st m ≡ 1 → st ≡ Stopped
stopped_at Stopped m h = refl
stopped_at _ m h = absurd (grind (arith, nat_tests, h))

begun_busy : (m : EndMachine) (c : PlanCall) → is_busy_at (begun_by m c).stage ≡ true
begun_busy m (ArmCall want w r k) = at_cond (λ (st : Stage). is_busy_at st ≡ true) (eqb want 0) _ _ (λ _. refl) (λ _. refl)
begun_busy m _ = refl

module _ (s : EndState) (e : PlanEnd) (c : PlanCall) (call : IsCallOf s e c) where
  abbrev base : EndState
  base = entered s (begun_by s.machine c) (packet_by c)

  abbrev vs : List ℕ
  vs = answers (accesses s.machine.side e c)

  pub stops_so : (end_of e c).state ≡ 1 → BreaksIn base vs (why_of call.after.machine)
  stops_so h =
      let stopped : call.after.machine.stage ≡ Stopped = stopped_at call.after.machine.stage call.after.machine (call.shows.state ∙ h) in
      subst (λ (t : EndState). BreaksIn base vs (why_of t.machine)) (sym call.after_is)
      (caused_in base (begun_busy s.machine c) vs (ap (λ (t : EndState). t.machine.stage) (sym call.after_is) ∙ stopped))

  pub refuses_so : (why : Why) → BreaksIn base vs why → ((end_of e c).state ≡ 1) × (why_of call.after.machine ≡ why)
  refuses_so why b =
      let it = refused_in base vs why b in
      let stopped : call.after.machine.stage ≡ Stopped = ap (λ (t : EndState). t.machine.stage) call.after_is ∙ it.0 in
      (sym call.shows.state ∙ ap (λ (st : Stage). state_at st call.after.machine) stopped, ap (λ (t : EndState). why_of t.machine) call.after_is ∙ it.1)
