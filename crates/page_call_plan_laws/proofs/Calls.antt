-- What the plans of the ring and of the pages let begins a call of an end with data pages.
use Rattle.std.proofs.Common.{◌≡◌, ◌≢◌, inl, inr, length, ◌*◌, ◌==◌, ℕ, ◌+◌, ◌<◌, Bool, true, false, ◌&&◌, cond, eqb, List, [], ◌∷◌, refl, sym, ap, ◌∙◌, arith}
use Rattle.std.specs.Prelude.{slice_index}
use Rattle.page_kept.specs.declared.due.Due.TheVariants.{Clear}
use Rattle.page_kept.specs.declared.page_call.PageCall.TheVariants.{Off}
use Rattle.ring_machine.specs.declared.state.EndState.{EndState}
use Rattle.ring_machine.specs.Places.{len8_of, is_index}
use Rattle.ring_machine.specs.States.{Begins, IsAwake}
use Rattle.ring_machine.specs.Steps.{send_begun, take_begun, commit_begun, arm_begun, mark_begun}
use Rattle.ring_call_plan.specs.declared.end.PlanEnd.{PlanEnd as RingEnd}
use Rattle.ring_call_plan.specs.Numbers.{is_at, is_formed, has_offset, can_send, can_arm, is_full, begin_says, send_says, take_says, commit_says, arm_says}
use Rattle.ring_call_plan.specs.Shown.{Shows as RingShows}
use Rattle.ring_call_plan.proofs.Parts.{rests, state_is}
use Rattle.ring_call_plan.proofs.Sends.{packet_is, fits_parts, send_ready, used_by}
use Rattle.ring_call_plan.proofs.Sleeps.{arm_parts}
use Rattle.page_call_plan.specs.declared.end.PageEnd.{PageEnd}
use Rattle.page_call_plan.specs.declared.ids.IdSlot.{IdSlot}
use Rattle.page_call_plan.specs.declared.slot.PageSlot.{PageSlot}
use Rattle.page_call_plan.specs.Answers.{planned}
use Rattle.page_call_plan.specs.Ends.{is_ready}
use Rattle.page_call_plan.specs.Ends.{send_says as page_send_says, take_says as page_take_says}
use Rattle.page_call_plan.specs.Shown.{Shows}
use Rattle.page_call_plan.proofs.Showing.{right, clear_of, may_send, take_clear}

zero_by : (b : Bool) (x : ℕ) → cond b x 0 ≢ 0 → b ≡ true
zero_by true x h = refl
zero_by false x h = absurd (h refl)

awake_by : (r : RingEnd) (s : EndState) → RingShows r s.machine → r.state ≡ 0 → IsAwake s
awake_by r s h z = let q = rests r s.machine h z in record { idle = q.0; awake = q.1; unmarked = q.2 }

ready : (r : RingEnd) → is_at 0 r ≡ true → r.state ≡ 0
ready r h = (state_is r 0 (is_formed r) h).0

module _ (r : RingEnd) (s : EndState) (e : PageEnd) (ss : List PageSlot) (asks owed : List IdSlot) (h : RingShows r s.machine) (copied : s.copied ≡ []) (off : s.pages.call ≡ Off) (sh : Shows s.machine.side s.got s.pages e ss asks owed) where
  pub begins_send : (p : List ℕ) (n v : ℕ) → page_send_says e n ss asks owed p ≡ planned → begin_says r (slice_index p 0) v ≢ 0 → length p ≡ len8_of (slice_index p 0) → Begins s (send_begun s.machine (length p)) p
  begins_send p n v lets used size =
      let w : ℕ = slice_index p 0 in
      let form : has_offset w ≡ true = zero_by (has_offset w) (send_says r (len8_of w) v) used in
      let says : send_says r (len8_of w) v ≢ 0 = λ z. used (ap (λ (b : Bool). cond b (send_says r (len8_of w) v) 0) form ∙ z) in
      let can : can_send r (len8_of w) ≡ true = used_by (can_send r (len8_of w)) (is_index r.cells v) (is_full r (len8_of w) v) says in
      let q = send_ready r (len8_of w) can in
      let room : len8_of w + 1 < r.cells = fits_parts r (len8_of w) q.2 in
      let few : length p + 1 < s.machine.cells = (let c = h.cells in omega (arith, room, size, c)) in
      ((copied, off), inl (refl, packet_is w form p size refl, few, awake_by r s h q.0, λ some. may_send s.machine.side s.got s.pages e ss asks owed sh n p lets))

  pub begins_take : (v : ℕ) → page_take_says e ss owed ≡ planned → take_says r v ≢ 0 → Begins s (take_begun s.machine) []
  begins_take v lets used = ((copied, off), inr (inl (refl, refl, awake_by r s h (ready r (zero_by (is_at 0 r) _ used)), sh.due ∙ take_clear e ss owed lets)))

  nothing_due : is_ready e ≡ true → s.pages.due ≡ Clear
  nothing_due lets = sh.due ∙ clear_of e (right (e.state == 0) (e.due_words == 0) lets)

  pub begins_commit : is_ready e ≡ true → commit_says r ≢ 0 → Begins s (commit_begun s.machine) []
  begins_commit lets used = ((copied, off), inr (inr (inl (refl, refl, awake_by r s h (ready r (zero_by (is_at 0 r) _ used)), nothing_due lets))))

  pub begins_arm : (want : ℕ) → is_ready e ≡ true → arm_says r want ≢ 0 → Begins s (arm_begun s.machine want) []
  begins_arm want lets used =
      let it = arm_parts r want (zero_by (can_arm r want) _ used) in
      let below : want < 8 * s.machine.cells = (let c = h.cells in let d = it.2 in omega (arith, c, d)) in
      ((copied, off), inr (inr (inr (inl (want, refl, below, refl, awake_by r s h it.0, h.start ∙ it.1 ∙ sym h.read, nothing_due lets)))))

  pub begins_mark : is_ready e ≡ true → commit_says r ≢ 0 → Begins s (mark_begun s.machine) []
  begins_mark lets used = ((copied, off), inr (inr (inr (inr (inr (inl (refl, refl, awake_by r s h (ready r (zero_by (is_at 0 r) _ used)), nothing_due lets)))))))
