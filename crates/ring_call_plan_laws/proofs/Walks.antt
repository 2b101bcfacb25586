-- Accesses that are steps of a machine, and what they leave.
use Rattle.std.proofs.Common.{◌≡◌, ◌≢◌, ℕ, ◌+◌, ◌<◌, ◌==◌, Bool, true, false, ◌&&◌, ◌||◌, cond, ltb, eqb, ◌++◌, List, [], ◌∷◌, Some, None, refl, sym, ap, ◌∙◌, subst, arith}
use Rattle.std.proofs.lemmas.Bool.Decides.{nat_tests}
use Rattle.page_kept.specs.declared.kept.Kept.{Kept}
use Rattle.ring_machine.specs.declared.machine.Stage.{Stage}
use Rattle.ring_machine.specs.declared.machine.Stage.TheVariants.{Idle, Stopped, SendWrite, TakeFirst, TakeCell}
use Rattle.ring_machine.specs.declared.machine.Ending.{Ending}
use Rattle.ring_machine.specs.declared.machine.EndMachine.{EndMachine}
use Rattle.ring_machine.specs.declared.place.Op.{Op}
use Rattle.ring_machine.specs.declared.state.EndState.{EndState}
use Rattle.ring_machine.specs.States.{afters, entered, copied_at, copied_after, pages_after, Begins}
use Rattle.ring_machine.specs.Steps.{fed, next_of, is_busy_at}
use Rattle.ring_machine.proofs.Bounds.{rests_none}
use Rattle.ring_machine.proofs.Sound.{at_cond}
use Rattle.ring_call_plan.specs.declared.end.PlanEnd.{PlanEnd}
use Rattle.ring_call_plan.specs.Answers.{number_of_ending}
use Rattle.ring_call_plan.specs.Numbers.{is_formed}
use Rattle.ring_call_plan.specs.Plans.{said_at}
use Rattle.ring_call_plan.specs.Shown.{state_at, Shows, feds, AtRest}
use Rattle.ring_call_plan.proofs.Parts.{true_is}
use Rattle.ring_call_plan.proofs.PlanLaws.{feeds_state}
use Rattle.ring_call_plan_laws.specs.Accesses.{Access, answers, AreStepsFrom}
use Rattle.ring_call_plan_laws.specs.Whole.{PlanCall, IsCallOf, plain, begun_by, packet_by, accesses, end_of, answer_of}

-- these accesses, the last one first, are the steps of a machine that sends the packet p
abbrev pub AreMachineSteps : EndMachine → List ℕ → List Access → Type 0
AreMachineSteps m p [] = Unit {0}
AreMachineSteps m p (a ∷ acts) = (next_of (feds m (answers acts)) p ≡ Some a.op) × AreMachineSteps m p acts

pub none_some : {T : Type 0} {x : T} → None ≡ Some x → ⊥
none_some h = cc

pub true_by : (b : Bool) (x : ℕ) → cond b x 0 ≢ 0 → b ≡ true
true_by true x h = refl
true_by false x h = absurd (h refl)

pub busy_by : (m : EndMachine) (p : List ℕ) (op : Op) → next_of m p ≡ Some op → is_busy_at m.stage ≡ true
busy_by m p op h = by_test (is_busy_at m.stage) refl
  where
    by_test : (b : Bool) → is_busy_at m.stage ≡ b → is_busy_at m.stage ≡ true
    by_test true i = i
    by_test false i = absurd (none_some (sym (rests_none m p m.stage i) ∙ h))

-- the packet stays as long as the call is under way
packet_kept : (s : EndState) (acts : List Access) → AreMachineSteps s.machine s.packet acts → is_busy_at (feds s.machine (answers acts)).stage ≡ true → (afters s (answers acts)).packet ≡ s.packet
packet_kept s [] h b = refl
packet_kept s (a ∷ acts) h b =
    true_is (is_busy_at (fed (afters s (answers acts)).machine a.gave).stage) _ _ (ap (λ (k : EndMachine). is_busy_at (fed k a.gave).stage) (feeds_state s (answers acts)) ∙ b)
    ∙ packet_kept s acts h.1 (busy_by _ _ _ h.0)

pub steps_from : (s : EndState) (acts : List Access) → AreMachineSteps s.machine s.packet acts → AreStepsFrom s acts
steps_from s [] h = tt
steps_from s (a ∷ acts) h =
    ((λ i. next_of (feeds_state s (answers acts) i) (packet_kept s acts h.1 (busy_by _ _ _ h.0) i)) ∙ h.0, steps_from s acts h.1)

-- an end that isn't in a call copies nothing
pub none_at : (st : Stage) (xs : List ℕ) → is_busy_at st ≡ false → copied_at st xs ≡ []
none_at TakeCell xs n = absurd (cc)
none_at _ xs n = refl

pub copied_over : (st : Stage) (m : EndMachine) (xs : List ℕ) (v : ℕ) → is_busy_at m.stage ≡ false → copied_after st m xs v ≡ []
copied_over TakeFirst m xs v n = none_at m.stage (v ∷ []) n
copied_over TakeCell m xs v n = none_at m.stage (xs ++ v ∷ []) n
copied_over _ m xs v n = refl

-- a channel without pages keeps none
none_is : (n : ℕ) → n ≡ 0 → (n == 0) ≡ true
none_is n e = grind (arith, nat_tests, e)

pages_still : (st : Stage) (m : EndMachine) (k : Kept) (p xs : List ℕ) (v : ℕ) → k.count ≡ 0 → pages_after st m k p xs v ≡ k
pages_still SendWrite m k p xs v e = true_is (k.count == 0) _ _ (none_is k.count e)
pages_still TakeCell m k p xs v e = at_cond (λ (j : Kept). j ≡ k) (ltb (m.done + 1) m.len) _ _ (λ _. refl) (λ _. true_is (k.count == 0) _ _ (none_is k.count e))
pages_still _ m k p xs v e = refl

pages_stay : (s : EndState) (vs : List ℕ) → s.pages.count ≡ 0 → (afters s vs).pages ≡ s.pages
pages_stay s [] e = refl
pages_stay s (v ∷ vs) e =
    let before : (afters s vs).pages ≡ s.pages = pages_stay s vs e in
    pages_still (afters s vs).machine.stage (afters s vs).machine (afters s vs).pages (afters s vs).packet (afters s vs).copied v (ap (λ (k : Kept). k.count) before ∙ e) ∙ before

pub rest_after : (s : EndState) (vs : List ℕ) → AtRest s → is_busy_at (feds s.machine vs).stage ≡ false → AtRest (afters s vs)
rest_after s vs r n =
    let same : (afters s vs).pages ≡ s.pages = pages_stay s vs r.count in
    record {
      copied = clear vs n;
      count = ap (λ (k : Kept). k.count) same ∙ r.count;
      call = ap (λ (k : Kept). k.call) same ∙ r.call;
      due = ap (λ (k : Kept). k.due) same ∙ r.due;
    }
  where
    clear : (us : List ℕ) → is_busy_at (feds s.machine us).stage ≡ false → (afters s us).copied ≡ []
    clear [] b = r.copied
    clear (v ∷ us) b = copied_over (afters s us).machine.stage (fed (afters s us).machine v) (afters s us).copied v (ap (λ (k : EndMachine). is_busy_at (fed k v).stage) (feeds_state s us) ∙ b)

-- the states between calls
abbrev pub is_resting : ℕ → Bool
is_resting k = (k == 0) || ((k == 1) || ((k == 6) || (k == 7)))

rests_at : (st : Stage) (m : EndMachine) → is_resting (state_at st m) ≡ true → is_busy_at st ≡ false
rests_at Idle m h = refl
rests_at Stopped m h = refl
rests_at _ m h = grind (arith, nat_tests, h)

pub over_by : (e : PlanEnd) (m : EndMachine) (k : ℕ) → Shows e m → e.state ≡ k → is_resting k ≡ true → is_busy_at m.stage ≡ false
over_by e m k s is h = rests_at m.stage m (ap is_resting (s.state ∙ is) ∙ h)

-- what a machine says whose call didn't go on as planned
pub said_over : (st : Stage) (how : Ending) → eqb (said_at st how) 19 ≡ false → (is_busy_at st ≡ false) × (said_at st how ≡ number_of_ending how)
said_over Idle how h = (refl, refl)
said_over Stopped how h = (refl, refl)
said_over _ how h = absurd (cc)

-- A whole call of a machine: the accesses are its steps, it is over then, the end shows it, and the answer says how it ended
pub record Walk (m : EndMachine) (p : List ℕ) (acts : List Access) (e : PlanEnd) (a : ℕ) : Type 0 where
  pub steps : AreMachineSteps m p acts
  pub shows : Shows e (feds m (answers acts))
  pub over : is_busy_at (feds m (answers acts)).stage ≡ false
  pub says : plain a ≡ number_of_ending (feds m (answers acts)).ended

-- the walk of a call, by what was fed to the machine
pub walk_by : (m : EndMachine) (p : List ℕ) (acts : List Access) (e : PlanEnd) (k : EndMachine) (a st : ℕ) (how : Ending) → AreMachineSteps m p acts → feds m (answers acts) ≡ k → Shows e k × (k.ended ≡ how) → e.state ≡ st → is_resting st ≡ true
    → plain a ≡ number_of_ending how → Walk m p acts e a
walk_by m p acts e k a st how steps is t state rests says = record {
  steps = steps;
  shows = subst (Shows e) (sym is) t.0;
  over = ap (λ (j : EndMachine). is_busy_at j.stage) is ∙ over_by e k st t.0 state rests;
  says = says ∙ ap number_of_ending (sym t.1) ∙ ap (λ (j : EndMachine). number_of_ending j.ended) (sym is);
}

pub whole_by : (s : EndState) (e : PlanEnd) (c : PlanCall) → AtRest s → Begins s (begun_by s.machine c) (packet_by c)
    → Walk (begun_by s.machine c) (packet_by c) (accesses s.machine.side e c) (end_of e c) (answer_of e c) → IsCallOf s e c
whole_by s e c r b w =
    let s' : EndState = entered s (begun_by s.machine c) (packet_by c) in
    let vs : List ℕ = answers (accesses s.machine.side e c) in
    let same : (afters s' vs).machine ≡ feds s'.machine vs = feeds_state s' vs in
    record {
      begins = b;
      steps = steps_from s' (accesses s.machine.side e c) w.steps;
      after = afters s' vs;
      after_is = refl;
      over = ap (λ (k : EndMachine). is_busy_at k.stage) same ∙ w.over;
      says = w.says ∙ ap (λ (k : EndMachine). number_of_ending k.ended) (sym same);
      shows = subst (Shows (end_of e c)) (sym same) w.shows;
      rests = rest_after s' vs (record { copied = r.copied; count = r.count; call = r.call; due = r.due }) w.over;
    }

-- an end in form stays so where another index, length or state is in form too
pub both : (a b : Bool) → a ≡ true → b ≡ true → (a && b) ≡ true
both true b e f = f
both false b e f = e

pub kept_form : (e : PlanEnd) (seen len : ℕ) → is_formed e ≡ true → seen < e.cells → len < e.cells → is_formed (record e { seen = seen; len = len }) ≡ true
kept_form e seen len form below small = grind (arith, nat_tests, form, below, small)
