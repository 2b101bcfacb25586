-- A call whose plan was given isn't refused where it is done.
use Rattle.std.proofs.Common.{◌≡◌, ◌≢◌, ℕ, ◌*◌, ◌<◌, ◌%◌, ◌==◌, true, cond, eqb, refl, sym, ap, ◌∙◌, arith}
use Rattle.std.specs.Prelude.{slice_index}
use Rattle.std.proofs.lemmas.Bool.Decides.{nat_tests}
use Rattle.ring_machine.specs.Places.{is_index, cell_of, len8_of}
use Rattle.ring_machine.proofs.Sound.{at_cond, cell_below}
use Rattle.ring_call_plan.specs.declared.end.PlanEnd.{PlanEnd}
use Rattle.ring_call_plan.specs.Numbers.{is_at, is_formed, is_full, can_send, can_arm, can_end_send, has_offset, has_length, gives_room, finds_work, begin_says, send_says, send_end, sent_says, take_says, take_end, head_says, commit_says, commit_end, given_says, arm_end, armed_says}
use Rattle.ring_call_plan.proofs.Parts.{apart, true_is, false_is, state_is}
use Rattle.ring_call_plan_laws.specs.Whole.{PlanCall, SendCall, TakeCall, CommitCall, ArmCall, PollCall, MarkCall, begins_as, answer_of}
use Rattle.ring_call_plan_laws.proofs.Walks.{true_by, kept_form}
use Rattle.ring_call_plan_laws.proofs.Sending.{goes_on, planned_end, ends_says, some_end}
use Rattle.ring_call_plan_laws.proofs.Taking.{planned_take, head_word, some_head}
use Rattle.ring_call_plan_laws.proofs.Committing.{given_word, some_given}
use Rattle.ring_call_plan_laws.proofs.Sleeping.{arm_word, some_arm}

sent_some : (e : PlanEnd) (k v x w : ℕ) → send_says e k v ≡ 19 → sent_says (send_end e k v) x w ≡ 0 → ⊥
sent_some e k v x w says zero =
    let p = planned_end (can_send e k) (is_index e.cells v) (is_full e k v) says in
    let is : send_end e k v ≡ record e { len = k; seen = cell_of v; state = 2 } = true_is (can_send e k) _ _ p.0 ∙ true_is (is_index e.cells v) _ _ p.1 ∙ false_is (is_full e k v) _ _ p.2 in
    some_end (eqb x 0) (eqb w (8 * e.write))
    (sym (ap (λ (u : PlanEnd). sent_says u x w) is ∙ true_is (can_end_send (record e { len = k; seen = cell_of v; state = 2 })) (ends_says (eqb x 0) (eqb w (8 * e.write))) 0 (goes_on e k v p.0 p.1)) ∙ zero)

head_some : (e : PlanEnd) (v h : ℕ) → take_says e v ≡ 19 → head_says (take_end e v) h ≡ 0 → ⊥
head_some e v h says zero =
    let p = planned_take (is_at 0 e) (is_index e.cells v) (eqb (cell_of v) e.read) says in
    let is : take_end e v ≡ record e { len = 0; seen = cell_of v; state = 3 } = true_is (is_at 0 e) _ _ p.0 ∙ true_is (is_index e.cells v) _ _ p.1 ∙ false_is (eqb (cell_of v) e.read) _ _ p.2 in
    let below : cell_of v < e.cells = cell_below e.cells v p.1 in
    let form : is_at 3 (record e { len = 0; seen = cell_of v; state = 3 }) ≡ true = kept_form e (cell_of v) 0 (state_is e 0 (is_formed e) p.0).1 below (omega (arith, below)) in
    some_head (has_length (record e { len = 0; seen = cell_of v; state = 3 }) h) (has_offset h)
    (sym (ap (λ (u : PlanEnd). head_says u h) is ∙ true_is (is_at 3 (record e { len = 0; seen = cell_of v; state = 3 })) (head_word (has_length (record e { len = 0; seen = cell_of v; state = 3 }) h) (has_offset h)) 0 form) ∙ zero)

given_some : (e : PlanEnd) (f q v : ℕ) → is_at 0 e ≡ true → given_says (commit_end e) f q v ≡ 0 → ⊥
given_some e f q v can zero =
    let on : PlanEnd = record e { len = 0; state = 4 } in
    let is : commit_end e ≡ on = true_is (is_at 0 e) _ _ can in
    let form : is_at 4 on ≡ true = grind (arith, nat_tests, can) in
    some_given (eqb (f % 2) 1) (eqb q 0) (gives_room on q v)
    (sym (ap (λ (u : PlanEnd). given_says u f q v) is ∙ true_is (is_at 4 on) (given_word (eqb (f % 2) 1) (eqb q 0) (gives_room on q v)) 0 form) ∙ zero)

armed_some : (e : PlanEnd) (want w r k : ℕ) → can_arm e want ≡ true → armed_says (arm_end e want) w r k ≡ 0 → ⊥
armed_some e want w r k can zero =
    let on : PlanEnd = record e { len = 0; want = want; state = 5 } in
    let is : arm_end e want ≡ on = true_is (can_arm e want) _ _ can in
    let form : is_at 5 on ≡ true = grind (arith, nat_tests, can) in
    some_arm (finds_work on w r k) (eqb want 0)
    (sym (ap (λ (u : PlanEnd). armed_says u w r k) is ∙ true_is (is_at 5 on) (arm_word (finds_work on w r k) (eqb want 0)) 0 form) ∙ zero)

-- of an answer to a plan and what comes behind it
goes_by : (a b : ℕ) → a ≢ 0 → (a ≡ 19 → b ≡ 0 → ⊥) → cond (a == 19) b a ≢ 0
goes_by a b used later = at_cond (λ (t : ℕ). t ≢ 0) (eqb a 19) b a (λ h. later (grind (arith, nat_tests, h))) (λ h. used)

took_or : (a : ℕ) → (a ≡ 0 → ⊥) → cond (a == 19) 5 a ≡ 0 → ⊥
took_or a some = at_cond (λ (t : ℕ). t ≢ 0) (eqb a 19) 5 a (λ h y. cc) (λ h. some)

pub carried : (e : PlanEnd) (c : PlanCall) → begins_as e c ≢ 0 → answer_of e c ≢ 0
carried e (SendCall p v x w) used =
    let k : ℕ = len8_of (slice_index p 0) in
    let is : begin_says e (slice_index p 0) v ≡ send_says e k v = true_is (has_offset (slice_index p 0)) _ _ (true_by (has_offset (slice_index p 0)) (send_says e k v) used) in
    goes_by (begin_says e (slice_index p 0) v) (sent_says (send_end e k v) x w) used (λ h. sent_some e k v x w (sym is ∙ h))
carried e (TakeCall v h ws) used =
    goes_by (take_says e v) (cond (head_says (take_end e v) h == 19) 5 (head_says (take_end e v) h)) used (λ one. took_or (head_says (take_end e v) h) (head_some e v h one))
carried e (CommitCall f q v) used = given_some e f q v (true_by (is_at 0 e) 19 used)
carried e (ArmCall want w r k) used = armed_some e want w r k (true_by (can_arm e want) 19 used)
carried e (PollCall v) used = used
carried e MarkCall used =
    let one : commit_says e ≡ 19 = true_is (is_at 0 e) 19 0 (true_by (is_at 0 e) 19 used) in
    λ z. apart 16 0 refl (sym (true_is (eqb (commit_says e) 19) 16 0 (grind (arith, nat_tests, one))) ∙ z)
