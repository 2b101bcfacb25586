-- Whole calls are calls of the state, runs of it, inside the channel.
use Rattle.std.proofs.Common.{◌≡◌, ◌≢◌, ⊎_elim, ℕ, ◌+◌, ◌<◌, ◌≤◌, ◌^◌, ◌==◌, true, cond, List, [], ◌∷◌, length, None, refl, sym, ap, ◌∙◌, subst, arith}
use Rattle.std.specs.List.{AllByRecursion}
use Rattle.std.specs.Prelude.{slice_index}
use Rattle.ring_machine.specs.declared.machine.EndMachine.{EndMachine}
use Rattle.ring_machine.specs.declared.place.Place.TheVariants.{Read, Mask}
use Rattle.io_edge.specs.declared.side.Side.{Side}
use Rattle.ring_machine.specs.declared.state.EndState.{EndState}
use Rattle.ring_machine.specs.Inside.{IsOpOf, IsInside}
use Rattle.ring_machine.specs.Places.{len8_of, out_of}
use Rattle.ring_machine.specs.States.{afters, entered, Begins, BeginsSend, BeginsTake, BeginsCommit, BeginsArm, BeginsPoll, BeginsMark, BeginsPeerMark}
use Rattle.ring_machine.specs.Steps.{IsSound, fed, made_at, next_of, send_begun}
use Rattle.ring_machine.proofs.Bounds.{inside_at}
use Rattle.ring_machine.proofs.Sound.{fed_sound, fed_made}
use Rattle.ring_machine.proofs.Tables.{fed_cells}
use Rattle.ring_pair_laws.proofs.Pairing.{begins_sound}
use Rattle.ring_core.specs.Told.{AreSteps, Ran, tells_nothing}
use Rattle.ring_call_plan.specs.declared.end.PlanEnd.{PlanEnd}
use Rattle.ring_call_plan.specs.Numbers.{send_end, send_plan_of, sent_says, sent_end, is_at, can_arm, has_offset, begin_says, send_says}
use Rattle.ring_call_plan.specs.Shown.{Shows, AtRest}
use Rattle.ring_call_plan.proofs.Parts.{true_is}
use Rattle.ring_call_plan.proofs.PlanLaws.{begins_send, begins_take, begins_commit, begins_arm, begins_poll, begins_mark}
use Rattle.ring_call_plan_laws.specs.Accesses.{Access, loaded, answers, AreStepsFrom}
use Rattle.ring_call_plan_laws.specs.Whole.{raise_after, send_stores, PlanCall, SendCall, TakeCall, CommitCall, ArmCall, PollCall, MarkCall, IsCallOf, IsHeard, accesses, begins_as, begun_by, packet_by, answer_of, end_of}
use Rattle.ring_call_plan_laws.proofs.Walks.{Walk, busy_by, none_some, true_by, whole_by}
use Rattle.ring_call_plan_laws.proofs.Sending.{send_walk}
use Rattle.ring_call_plan_laws.proofs.Taking.{take_walk}
use Rattle.ring_call_plan_laws.proofs.Committing.{commit_walk, mark_walk}
use Rattle.ring_call_plan_laws.proofs.Sleeping.{arm_walk}
use Rattle.ring_call_plan_laws.proofs.Polling.{poll_walk}

-- what a send makes, leaves and answers, by the answer to its plan
abbrev send_made : Side → PlanEnd → List ℕ → ℕ → ℕ → ℕ → ℕ → ℕ → List Access
send_made y e p k v x w a =
    cond (a == 19) (raise_after y (sent_says (send_end e k v) x w == 2) (cond (x == 0) (loaded (Read (out_of y)) w ∷ loaded (Mask (out_of y)) x ∷ send_stores y (send_plan_of e k) p v) (loaded (Mask (out_of y)) x ∷ send_stores y (send_plan_of e k) p v))) (loaded (Read (out_of y)) v ∷ [])

abbrev send_left : PlanEnd → ℕ → ℕ → ℕ → PlanEnd
send_left e k v a = cond (a == 19) (sent_end (send_end e k v)) (send_end e k v)

abbrev send_answer : PlanEnd → ℕ → ℕ → ℕ → ℕ → ℕ → ℕ
send_answer e k v x w a = cond (a == 19) (sent_says (send_end e k v) x w) a

-- the accesses of a call are steps of the machine
module _ (e : PlanEnd) (m : EndMachine) (h : Shows e m) where
  send_walks : (p : List ℕ) (v x w : ℕ) → begin_says e (slice_index p 0) v ≢ 0 → length p ≡ len8_of (slice_index p 0) → x < 2 ^ 32 → w < 2 ^ 32
      → Walk (send_begun m (length p)) p (accesses m.side e (SendCall p v x w)) (end_of e (SendCall p v x w)) (answer_of e (SendCall p v x w))
  send_walks p v x w used size small small' =
      let k : ℕ = len8_of (slice_index p 0) in
      let form : has_offset (slice_index p 0) ≡ true = true_by (has_offset (slice_index p 0)) (send_says e k v) used in
      let is : begin_says e (slice_index p 0) v ≡ send_says e k v = true_is (has_offset (slice_index p 0)) _ _ form in
      subst (λ (a : ℕ × ℕ). Walk (send_begun m a.1) p (send_made m.side e p k v x w a.0) (send_left e k v a.0) (send_answer e k v x w a.0)) (λ j. (sym is j, sym size j)) (send_walk e m p k v x w h size small small' (λ z. used (is ∙ z)))

  pub walks : (c : PlanCall) → begins_as e c ≢ 0 → IsHeard e c → Walk (begun_by m c) (packet_by c) (accesses m.side e c) (end_of e c) (answer_of e c)
  walks (SendCall p v x w) used heard = send_walks p v x w used heard.0 heard.1 heard.2
  walks (TakeCall v head ws) used heard = take_walk e m v head ws h used heard
  walks (CommitCall f q v) used heard = commit_walk e m f q v h heard.0 heard.1 heard.2 (true_by (is_at 0 e) 19 used)
  walks (ArmCall want w i k) used heard = arm_walk e m want w i k h heard (true_by (can_arm e want) 19 used)
  walks (PollCall v) used heard = poll_walk e m v h (true_by (is_at 6 e) (cond (v == 0) 14 (cond (e.want == 0) 15 21)) used)
  walks MarkCall used heard = mark_walk e m h (true_by (is_at 0 e) 19 used)

module _ (s : EndState) (e : PlanEnd) (h : Shows e s.machine) (r : AtRest s) where
  begins : (c : PlanCall) → begins_as e c ≢ 0 → IsHeard e c → Begins s (begun_by s.machine c) (packet_by c)
  begins (SendCall p v x w) used heard = begins_send e s h r p v used heard.0
  begins (TakeCall v head ws) used heard = begins_take e s h r v used
  begins (CommitCall f q v) used heard = begins_commit e s h r used
  begins (ArmCall want w i k) used heard = begins_arm e s h r want used
  begins (PollCall v) used heard = begins_poll e s h r v used
  begins MarkCall used heard = begins_mark e s h r used

  pub is_call : (c : PlanCall) → begins_as e c ≢ 0 → IsHeard e c → IsCallOf s e c
  is_call c used heard = whole_by s e c r (begins c used heard) (walks e s.machine h c used heard)

begun_cells : (s : EndState) (m : EndMachine) (p : List ℕ) → Begins s m p → m.cells ≡ s.machine.cells
begun_cells s m p b =
    ⊎_elim (λ (x : BeginsSend s m p). ap (λ (k : EndMachine). k.cells) x.0)
    (⊎_elim (λ (x : BeginsTake s m p). ap (λ (k : EndMachine). k.cells) x.0)
    (⊎_elim (λ (x : BeginsCommit s m p). ap (λ (k : EndMachine). k.cells) x.0)
    (⊎_elim (λ (x : BeginsArm s m p). ap (λ (k : EndMachine). k.cells) x.1)
    (⊎_elim (λ (x : BeginsPoll s m p). ap (λ (k : EndMachine). k.cells) x.0)
    (⊎_elim (λ (x : BeginsMark s m p). ap (λ (k : EndMachine). k.cells) x.0)
    (λ (x : BeginsPeerMark s m p). ap (λ (k : EndMachine). k.cells) x.0)))))) b.1

afters_sound : (s : EndState) (vs : List ℕ) → IsSound s.machine → IsSound (afters s vs).machine
afters_sound s [] h = h
afters_sound s (v ∷ vs) h = fed_sound (afters s vs).machine v (afters_sound s vs h)

afters_cells : (s : EndState) (vs : List ℕ) → (afters s vs).machine.cells ≡ s.machine.cells
afters_cells s [] = refl
afters_cells s (v ∷ vs) = fed_cells (afters s vs).machine v (afters s vs).machine.stage ∙ afters_cells s vs

-- steps are made while a call is under way, and are counted
are_steps : (s : EndState) (acts : List Access) → AreStepsFrom s acts → AreSteps s (answers acts)
are_steps s [] h = tt
are_steps s (a ∷ acts) h = (busy_by _ _ _ h.0, are_steps s acts h.1)

few_steps : (s : EndState) (acts : List Access) → IsSound s.machine → AreStepsFrom s acts → length (answers acts) ≤ made_at (afters s (answers acts)).machine.stage (afters s (answers acts)).machine
few_steps s [] sound h = omega arith
few_steps s (a ∷ acts) sound h =
    let m : EndMachine = (afters s (answers acts)).machine in
    let more : made_at m.stage m + 1 ≤ made_at (fed m a.gave).stage (fed m a.gave) = fed_made m a.gave (afters_sound s (answers acts) sound) (busy_by _ _ _ h.0) in
    let few : length (answers acts) ≤ made_at m.stage m = few_steps s acts sound h.1 in
    omega (arith, more, few)

module _ (s : EndState) (e : PlanEnd) (c : PlanCall) (sound : IsSound s.machine) (call : IsCallOf s e c) where
  abbrev base : EndState
  base = entered s (begun_by s.machine c) (packet_by c)

  abbrev made : List Access
  made = accesses s.machine.side e c

  base_sound : IsSound base.machine
  base_sound = begins_sound s (begun_by s.machine c) (packet_by c) sound call.begins

  pub is_run : (r : Ran base call.after None None tells_nothing tells_nothing) × (r.values ≡ answers made)
  is_run = (
    record {
      values = answers made;
      state = call.after_is;
      each = are_steps base made call.steps;
      few = subst (λ (t : EndState). length (answers made) ≤ made_at t.machine.stage t.machine) (sym call.after_is) (few_steps base made base_sound call.steps);
      silent = λ _. refl;
      tells = λ u h. absurd (none_some h);
      runs = λ m h. absurd (none_some h);
      hears = λ vs h. absurd (none_some h);
    },
    refl,
  )

  pub after_sound : IsSound call.after.machine
  after_sound = subst (λ (t : EndState). IsSound t.machine) (sym call.after_is) (afters_sound base (answers made) base_sound)

  is_inside : (acts : List Access) → AreStepsFrom base acts → AllByRecursion (λ (a : Access). IsOpOf s.machine.cells 0 a.op) acts
  is_inside [] h = tt
  is_inside (a ∷ acts) h =
      let t : EndState = afters base (answers acts) in
      let in_ring : IsInside t.machine.cells 0 (next_of t.machine t.packet) = inside_at t.machine 0 t.packet (afters_sound base (answers acts) base_sound) t.machine.stage refl in
      let cells : t.machine.cells ≡ s.machine.cells = afters_cells base (answers acts) ∙ begun_cells s (begun_by s.machine c) (packet_by c) call.begins in
      (subst (λ (n : ℕ). IsOpOf n 0 a.op) cells (subst (IsInside t.machine.cells 0) h.0 in_ring), is_inside acts h.1)

  pub all_inside : AllByRecursion (λ (a : Access). IsOpOf s.machine.cells 0 a.op) (accesses s.machine.side e c)
  all_inside = is_inside made call.steps
