-- The laws of plans.
use Rattle.std.proofs.Common.{◌≡◌, ◌≢◌, inl, inr, length, ◌*◌, ℕ, ◌+◌, ◌<◌, ◌≤◌, Bool, true, false, ◌&&◌, cond, leb, ltb, eqb, List, [], ◌∷◌, refl, sym, ap, ◌∙◌, subst, arith}
use Rattle.std.proofs.lemmas.Bool.Decides.{nat_tests}
use Rattle.ring_machine.specs.declared.machine.Stage.{Stage}
use Rattle.ring_machine.specs.declared.machine.Stage.TheVariants.{Idle}
use Rattle.ring_machine.specs.declared.machine.EndMachine.{EndMachine}
use Rattle.ring_machine.specs.declared.state.EndState.{EndState}
use Rattle.ring_machine.specs.States.{afters, Begins, IsAwake}
use Rattle.ring_machine.specs.Steps.{IsSound, fed, send_begun, take_begun, commit_begun, arm_begun, poll_begun, mark_begun}
use Rattle.ring_call_plan.specs.declared.end.PlanEnd.{PlanEnd}
use Rattle.ring_call_plan.specs.Numbers.{is_at, is_formed, has_offset, can_send, can_arm, is_full, begin_says, send_says, take_says, commit_says, arm_says, polled_says}
use Rattle.ring_call_plan.specs.Shown.{state_at, Shows, feds, AtRest}
use Rattle.std.specs.Prelude.{slice_index}
use Rattle.ring_machine.specs.Places.{len8_of, is_index}
use Rattle.ring_call_plan.proofs.Parts.{idle_shows, rests, state_is, asleep_at}
use Rattle.ring_call_plan.proofs.Sends.{packet_is, fits_parts, send_ready, used_by}
use Rattle.ring_call_plan.proofs.Sleeps.{arm_parts}

pub feeds_state : (s : EndState) (vs : List ℕ) → (afters s vs).machine ≡ feds s.machine vs
feeds_state s [] = refl
feeds_state s (v ∷ vs) = ap (λ (k : EndMachine). fed k v) (feeds_state s vs)

both : (a b : Bool) → a ≡ true → b ≡ true → (a && b) ≡ true
both true b e f = f
both false b e f = e

less : (a b : ℕ) → a < b → ltb a b ≡ true
less a b h = grind (arith, nat_tests, h)

most : (a b : ℕ) → a ≤ b → leb a b ≡ true
most a b h = grind (arith, nat_tests, h)

pub formed : (e : PlanEnd) (m : EndMachine) → IsSound m → Shows e m → is_formed e ≡ true
formed e m k s =
    let below : (i j : ℕ) → i ≡ j → i < m.cells → ltb j e.cells ≡ true = λ i j h l. less j e.cells (subst (λ (x : ℕ). x < e.cells) h (subst (λ (x : ℕ). i < x) s.cells l)) in
    both _ _ (most e.cells 16777216 (let c = k.cells.1 in let d = s.cells in omega (arith, c, d)))
    (both _ _ (below m.write e.write s.write k.write)
    (both _ _ (below m.read e.read s.read k.read)
    (both _ _ (below m.start e.start s.start k.start)
    (both _ _ (below m.seen e.seen s.seen k.seen)
    (below m.len e.len s.len (let l = k.len in omega (arith, l)))))))

pub idle : (e : PlanEnd) (m : EndMachine) → IsSound m → Shows e m → m.stage ≡ Idle → m.asleep ≡ false → m.marked ≡ false → is_at 0 e ≡ true
idle e m k s i a u =
    let zero : e.state ≡ 0 = sym s.state ∙ ap (λ (st : Stage). state_at st m) i ∙ idle_shows m a u in
    both _ _ (ap (λ (x : ℕ). eqb x 0) zero) (formed e m k s)

-- what isn't refused begins a call
zero_by : (b : Bool) (x : ℕ) → cond b x 0 ≢ 0 → b ≡ true
zero_by true x h = refl
zero_by false x h = absurd (h refl)

awake_by : (e : PlanEnd) (s : EndState) → Shows e s.machine → e.state ≡ 0 → IsAwake s
awake_by e s h z = let r = rests e s.machine h z in record { idle = r.0; awake = r.1; unmarked = r.2 }

ready : (e : PlanEnd) → is_at 0 e ≡ true → e.state ≡ 0
ready e h = (state_is e 0 (is_formed e) h).0

module _ (e : PlanEnd) (s : EndState) (h : Shows e s.machine) (rest : AtRest s) where
  pub begins_send : (p : List ℕ) (v : ℕ) → begin_says e (slice_index p 0) v ≢ 0 → length p ≡ len8_of (slice_index p 0) → Begins s (send_begun s.machine (length p)) p
  begins_send p v used size =
      let w : ℕ = slice_index p 0 in
      let form : has_offset w ≡ true = zero_by (has_offset w) (send_says e (len8_of w) v) used in
      let says : send_says e (len8_of w) v ≢ 0 = λ z. used (ap (λ (b : Bool). cond b (send_says e (len8_of w) v) 0) form ∙ z) in
      let can : can_send e (len8_of w) ≡ true = used_by (can_send e (len8_of w)) (is_index e.cells v) (is_full e (len8_of w) v) says in
      let r = send_ready e (len8_of w) can in
      let room : len8_of w + 1 < e.cells = fits_parts e (len8_of w) r.2 in
      let few : length p + 1 < s.machine.cells = (let c = h.cells in omega (arith, room, size, c)) in
      ((rest.copied, rest.call), inl (refl, packet_is w form p size refl, few, awake_by e s h r.0, λ n. absurd (n rest.count)))

  pub begins_take : (v : ℕ) → take_says e v ≢ 0 → Begins s (take_begun s.machine) []
  begins_take v used = ((rest.copied, rest.call), inr (inl (refl, refl, awake_by e s h (ready e (zero_by (is_at 0 e) _ used)), rest.due)))

  pub begins_commit : commit_says e ≢ 0 → Begins s (commit_begun s.machine) []
  begins_commit used = ((rest.copied, rest.call), inr (inr (inl (refl, refl, awake_by e s h (ready e (zero_by (is_at 0 e) _ used)), rest.due))))

  pub begins_arm : (want : ℕ) → arm_says e want ≢ 0 → Begins s (arm_begun s.machine want) []
  begins_arm want used =
      let it = arm_parts e want (zero_by (can_arm e want) _ used) in
      let below : want < 8 * s.machine.cells = (let c = h.cells in let d = it.2 in omega (arith, c, d)) in
      ((rest.copied, rest.call), inr (inr (inr (inl (want, refl, below, refl, awake_by e s h it.0, h.start ∙ it.1 ∙ sym h.read, rest.due)))))

  pub begins_poll : (v : ℕ) → polled_says e v ≢ 0 → Begins s (poll_begun s.machine) []
  begins_poll v used =
      let six : e.state ≡ 6 = (state_is e 6 (is_formed e) (zero_by (is_at 6 e) _ used)).0 in
      ((rest.copied, rest.call), inr (inr (inr (inr (inl (refl, refl, asleep_at s.machine.stage s.machine (h.state ∙ six), h.asleep ∙ ap (λ (x : ℕ). eqb x 6) six))))))

  pub begins_mark : commit_says e ≢ 0 → Begins s (mark_begun s.machine) []
  begins_mark used = ((rest.copied, rest.call), inr (inr (inr (inr (inr (inl (refl, refl, awake_by e s h (ready e (zero_by (is_at 0 e) _ used)), rest.due)))))))
