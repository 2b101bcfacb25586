-- A whole send by plans.
use Rattle.std.proofs.Common.{◌≡◌, ◌≢◌, ℕ, zero, suc, ◌+◌, ◌*◌, ◌<◌, ◌≤◌, ◌^◌, ◌==◌, Bool, true, false, cond, eqb, List, [], ◌∷◌, length, Some, refl, sym, ap, ◌∙◌, subst, arith}
use Rattle.std.specs.Prelude.{slice_index}
use Rattle.std.proofs.lemmas.Bool.Decides.{nat_tests}
use Rattle.io_edge.specs.declared.side.Side.{Side}
use Rattle.ring_machine.specs.declared.machine.EndMachine.{EndMachine}
use Rattle.ring_machine.specs.declared.machine.Ending.{Ending}
use Rattle.ring_machine.specs.declared.machine.Ending.TheVariants.{SentQuiet, SentRaised}
use Rattle.ring_machine.specs.declared.place.Ring.{Ring}
use Rattle.ring_machine.specs.declared.place.Place.TheVariants.{Write, Read, Mask, Cell}
use Rattle.ring_machine.specs.declared.place.Op.TheVariants.{Load, Store, Raise}
use Rattle.ring_machine.specs.Places.{out_of, peer_of, is_index, cell_of, ahead}
use Rattle.ring_machine.specs.Steps.{fed, next_of, send_begun}
use Rattle.ring_machine.proofs.Sound.{cell_below}
use Rattle.ring_pair_laws.proofs.Sides.{fed_side}
use Rattle.ring_call_plan.specs.declared.end.PlanEnd.{PlanEnd}
use Rattle.ring_call_plan.specs.declared.end.SendPlan.{SendPlan}
use Rattle.ring_call_plan.specs.Answers.{number_of_ending}
use Rattle.ring_call_plan.specs.Numbers.{can_send, is_full, send_says, send_end, send_planned, send_plan_of, can_end_send, sent_says, sent_end}
use Rattle.ring_call_plan.specs.Plans.{StoresBy, SendBegun, SendEnded, asked, offset_in}
use Rattle.ring_call_plan.specs.Shown.{Shows, feds}
use Rattle.ring_call_plan.proofs.Parts.{true_is, false_is, apart}
use Rattle.ring_call_plan.proofs.Sends.{send_ready, fits_parts, begun, ended_as}
use Rattle.ring_call_plan_laws.specs.Accesses.{Access, loaded, made, answers, stores_after}
use Rattle.ring_call_plan_laws.specs.Whole.{plain, send_stores, raise_after}
use Rattle.ring_call_plan_laws.proofs.Walks.{AreMachineSteps, Walk, walk_by, both, kept_form, said_over}

-- the stores of the packet's words, from the machine that goes on after the accesses before
fed_on : (m : EndMachine) (before : List Access) (r : Ring) (at first : ℕ) (p : List ℕ) (j : ℕ) → feds m (answers (stores_after before r at first p j)) ≡ feds (feds m (answers before)) (answers (stores_after [] r at first p j))
fed_on m before r at first p zero = refl
fed_on m before r at first p (suc j) = ap (λ (k : EndMachine). fed k 0) (fed_on m before r at first p j)

many : (r : Ring) (at first : ℕ) (p : List ℕ) (j : ℕ) → length (answers (stores_after [] r at first p j)) ≡ j
many r at first p zero = refl
many r at first p (suc j) = ap suc (many r at first p j)

words_stored : (m : EndMachine) (before : List Access) (p : List ℕ) (q : SendPlan) → AreMachineSteps m p before → StoresBy (feds m (answers before)) p q → (y : Side) → (feds m (answers before)).side ≡ y
    → (j : ℕ) → j ≤ length p → AreMachineSteps m p (stores_after before (out_of y) q.at q.first p j)
words_stored m before p q steps by y side zero h = steps
words_stored m before p q steps by y side (suc j) h =
    let ws : List ℕ = answers (stores_after [] (out_of y) q.at q.first p j) in
    let size : length ws ≡ j = many (out_of y) q.at q.first p j in (
      ap (λ (k : EndMachine). next_of k p) (fed_on m before (out_of y) q.at q.first p j)
          ∙ by.words ws (omega (arith, size, h))
          ∙ (λ i. Some (Store (Cell (out_of (side i)) (offset_in q.at q.first (size i))) (slice_index p (size i)))),
      words_stored m before p q steps by y side j (omega (arith, h)),
    )

-- the end of a send that was planned is in form
pub goes_on : (e : PlanEnd) (k v : ℕ) → can_send e k ≡ true → is_index e.cells v ≡ true → can_end_send (record e { len = k; seen = cell_of v; state = 2 }) ≡ true
goes_on e k v can index =
    let r = send_ready e k can in
    let room : k + 1 < e.cells = fits_parts e k r.2 in
    both _ _ (kept_form e (cell_of v) k r.1 (cell_below e.cells v index) (omega (arith, room))) (grind (arith, nat_tests, room))

pub planned_end : (b c d : Bool) → cond b (cond c (cond {A = ℕ} d 3 19) 4) 0 ≡ 19 → (b ≡ true) × (c ≡ true) × (d ≡ false)
planned_end true true false h = (refl, refl, refl)
planned_end _ _ _ h = absurd (cc)

same_plan : (b c d : Bool) (q : SendPlan) → cond b (cond c (cond d q q) q) q ≡ q
same_plan true true true q = refl
same_plan _ _ _ q = refl

abbrev pub ends_says : Bool → Bool → ℕ
ends_says a b = cond a (cond b 2 1) 1

pub some_end : (b c : Bool) → ends_says b c ≡ 0 → ⊥
some_end true true z = cc
some_end _ _ z = cc

module _ (e : PlanEnd) (m : EndMachine) (p : List ℕ) (k v x w : ℕ) (s : Shows e m) (size : length p ≡ k) (small : x < 2 ^ 32) (small' : w < 2 ^ 32) (says : send_says e k v ≡ 19) where
  abbrev y : Side
  y = m.side

  sb : SendBegun m k v (send_says e k v) (send_end e k v) (send_planned e k v (send_plan_of e k))
  sb = begun e m k v (send_plan_of e k) s (λ z. apart 0 19 refl (sym z ∙ says))

  parts : (can_send e k ≡ true) × (is_index e.cells v ≡ true) × (is_full e k v ≡ false)
  parts = planned_end (can_send e k) (is_index e.cells v) (is_full e k v) says

  abbrev on : PlanEnd
  on = record e { len = k; seen = cell_of v; state = 2 }

  end_is : send_end e k v ≡ on
  end_is = true_is (can_send e k) _ _ parts.0 ∙ true_is (is_index e.cells v) _ _ parts.1 ∙ false_is (is_full e k v) _ _ parts.2

  abbrev began : EndMachine
  began = fed (send_begun m k) v

  on_shows : Shows on began
  on_shows = subst (λ (u : PlanEnd). Shows u began) end_is sb.shows

  by : StoresBy began p (send_plan_of e k)
  by = subst (StoresBy began p) (same_plan (can_send e k) (is_index e.cells v) (is_full e k v) (send_plan_of e k)) (sb.stores says p size)

  side : began.side ≡ y
  side = fed_side (send_begun m k) v (send_begun m k).stage

  abbrev q : SendPlan
  q = send_plan_of e k

  abbrev first_load : List Access
  first_load = loaded (Read (out_of y)) v ∷ []

  abbrev cells : List Access
  cells = stores_after first_load (out_of y) q.at q.first p (length p)

  abbrev ws : List ℕ
  ws = answers (stores_after [] (out_of y) q.at q.first p (length p))

  ws_size : length ws ≡ length p
  ws_size = many (out_of y) q.at q.first p (length p)

  cells_fed : feds (send_begun m k) (answers cells) ≡ feds began ws
  cells_fed = fed_on (send_begun m k) first_load (out_of y) q.at q.first p (length p)

  abbrev stored : List Access
  stored = send_stores y q p v

  stored_fed : feds (send_begun m k) (answers stored) ≡ feds began (0 ∷ 0 ∷ ws)
  stored_fed = ap (λ (j : EndMachine). fed (fed j 0) 0) cells_fed

  stored_steps : AreMachineSteps (send_begun m k) p stored
  stored_steps = (
    ap (λ (j : EndMachine). next_of (fed j 0) p) cells_fed ∙ by.write (0 ∷ ws) (omega (arith, ws_size)) ∙ (λ i. Some (Store (Write (out_of (side i))) q.write)),
    (
      ap (λ (j : EndMachine). next_of j p) cells_fed ∙ by.trailer ws ws_size ∙ (λ i. Some (Store (Cell (out_of (side i)) q.trailer_at) q.trailer)),
      words_stored (send_begun m k) first_load p q (refl, tt) by y side (length p) (omega arith),
    ),
  )

  can_end : can_end_send on ≡ true
  can_end = goes_on e k v parts.0 parts.1

  says_is : sent_says on x w ≡ ends_says (eqb x 0) (eqb w (8 * e.write))
  says_is = true_is (can_end_send on) _ _ can_end

  se : SendEnded began (0 ∷ 0 ∷ ws) x w (sent_says on x w) (sent_end on)
  se = ended_as on x w (sent_says on x w) (sent_end on) small small' refl refl began on_shows (λ z. some_end (eqb x 0) (eqb w (8 * e.write)) (sym says_is ∙ z)) (0 ∷ 0 ∷ ws) (omega (arith, ws_size, size))

  says_by : (b c : Bool) → eqb x 0 ≡ b → eqb w (8 * e.write) ≡ c → sent_says on x w ≡ ends_says b c
  says_by b c h g = says_is ∙ (λ i. ends_says (h i) (g i))

  asked_by : (b : Bool) → eqb x 0 ≡ b → asked x w (0 ∷ 0 ∷ ws) ≡ cond b (w ∷ x ∷ 0 ∷ 0 ∷ ws) (x ∷ 0 ∷ 0 ∷ ws)
  asked_by b h = ap (λ (t : Bool). cond t (w ∷ x ∷ 0 ∷ 0 ∷ ws) (x ∷ 0 ∷ 0 ∷ ws)) h

  abbrev masked : List Access
  masked = loaded (Mask (out_of y)) x ∷ stored

  abbrev looked : List Access
  looked = loaded (Read (out_of y)) w ∷ masked

  masked_fed : eqb x 0 ≡ false → feds (send_begun m k) (answers masked) ≡ feds began (asked x w (0 ∷ 0 ∷ ws))
  masked_fed h = ap (λ (j : EndMachine). fed j x) stored_fed ∙ ap (feds began) (sym (asked_by false h))

  looked_fed : eqb x 0 ≡ true → feds (send_begun m k) (answers looked) ≡ feds began (asked x w (0 ∷ 0 ∷ ws))
  looked_fed h = ap (λ (j : EndMachine). fed (fed j x) w) stored_fed ∙ ap (feds began) (sym (asked_by true h))

  masked_steps : AreMachineSteps (send_begun m k) p masked
  masked_steps = (ap (λ (j : EndMachine). next_of j p) stored_fed ∙ se.mask p ∙ (λ i. Some (Load (Mask (out_of (side i))))), stored_steps)

  looked_steps : eqb x 0 ≡ true → AreMachineSteps (send_begun m k) p looked
  looked_steps h =
      let none : x ≡ 0 = grind (arith, nat_tests, h) in
      (ap (λ (j : EndMachine). next_of (fed j x) p) stored_fed ∙ se.look none p ∙ (λ i. Some (Load (Read (out_of (side i))))), masked_steps)

  rest_state : (sent_end on).state ≡ 0
  rest_state = ap (λ (u : PlanEnd). u.state) (true_is (can_end_send on) (record on { write = ahead e.cells e.write (k + 1); state = 0 }) on can_end)

  ended : (acts : List Access) (us : List ℕ) (a : ℕ) (how : Ending) → AreMachineSteps (send_begun m k) p acts → feds (send_begun m k) (answers acts) ≡ feds began us → Shows (sent_end on) (feds began us) × ((feds began us).ended ≡ how)
      → plain a ≡ number_of_ending how → Walk (send_begun m k) p acts (sent_end on) a
  ended acts us a how steps is t says' = walk_by _ _ acts (sent_end on) (feds began us) a 0 how steps is t rest_state refl says'

  by_tests : (b c : Bool) → eqb x 0 ≡ b → eqb w (8 * e.write) ≡ c → Walk (send_begun m k) p (raise_after y (ends_says b c == 2) (cond b looked masked)) (sent_end on) (ends_says b c)
  by_tests true true h g =
      let us : List ℕ = asked x w (0 ∷ 0 ∷ ws) in
      let raises : sent_says on x w ≡ 2 = says_by true true h g in
      ended (made (Raise (peer_of y)) ∷ looked) (0 ∷ us) 2 SentRaised
      (ap (λ (j : EndMachine). next_of j p) (looked_fed h) ∙ se.raise raises p ∙ (λ i. Some (Raise (peer_of (side i)))), looked_steps h)
      (ap (λ (j : EndMachine). fed j 0) (looked_fed h)) (se.raised raises 0) refl
  by_tests true false h g = ended looked (asked x w (0 ∷ 0 ∷ ws)) 1 SentQuiet (looked_steps h) (looked_fed h) (se.quiet (says_by true false h g)) refl
  by_tests false c h g = ended masked (asked x w (0 ∷ 0 ∷ ws)) 1 SentQuiet masked_steps (masked_fed h) (se.quiet (says_by false c h g)) refl

  pub planned_walk : Walk (send_begun m k) p (raise_after y (sent_says (send_end e k v) x w == 2) (cond (eqb x 0) looked masked)) (sent_end (send_end e k v)) (sent_says (send_end e k v) x w)
  planned_walk =
      subst (λ (u : PlanEnd). Walk (send_begun m k) p (raise_after y (sent_says u x w == 2) (cond (eqb x 0) looked masked)) (sent_end u) (sent_says u x w)) (sym end_is)
      (subst (λ (a : ℕ). Walk (send_begun m k) p (raise_after y (a == 2) (cond (eqb x 0) looked masked)) (sent_end on) a) (sym says_is) (by_tests (eqb x 0) (eqb w (8 * e.write)) refl refl))

-- a send that wasn't planned ends at its first load
stopped_walk : (e : PlanEnd) (m : EndMachine) (p : List ℕ) (k v : ℕ) → Shows e m → send_says e k v ≢ 0 → eqb (send_says e k v) 19 ≡ false
    → Walk (send_begun m k) p (loaded (Read (out_of m.side)) v ∷ []) (send_end e k v) (send_says e k v)
stopped_walk e m p k v s used other =
    let sb : SendBegun m k v (send_says e k v) (send_end e k v) (send_planned e k v (send_plan_of e k)) = begun e m k v (send_plan_of e k) s used in
    let now : EndMachine = fed (send_begun m k) v in
    let it = said_over now.stage now.ended (ap (λ (a : ℕ). eqb a 19) (sym sb.says) ∙ other) in
    record {
      steps = (refl, tt);
      shows = sb.shows;
      over = it.0;
      says = plain_by (can_send e k) (is_index e.cells v) (is_full e k v) ∙ sb.says ∙ it.1;
    }
  where
    plain_by : (b c d : Bool) → plain (cond b (cond c (cond d 3 19) 4) 0) ≡ cond b (cond c (cond d 3 19) 4) 0
    plain_by true true true = refl
    plain_by _ _ _ = refl

pub send_walk : (e : PlanEnd) (m : EndMachine) (p : List ℕ) (k v x w : ℕ) → Shows e m → length p ≡ k → x < 2 ^ 32 → w < 2 ^ 32 → send_says e k v ≢ 0
    → Walk (send_begun m k) p
    (cond (send_says e k v == 19) (raise_after m.side (sent_says (send_end e k v) x w == 2) (cond (x == 0) (loaded (Read (out_of m.side)) w ∷ loaded (Mask (out_of m.side)) x ∷ send_stores m.side (send_plan_of e k) p v) (loaded (Mask (out_of m.side)) x ∷ send_stores m.side (send_plan_of e k) p v))) (loaded (Read (out_of m.side)) v ∷ []))
    (cond (send_says e k v == 19) (sent_end (send_end e k v)) (send_end e k v))
    (cond (send_says e k v == 19) (sent_says (send_end e k v) x w) (send_says e k v))
send_walk e m p k v x w s size small small' used = by_plan (send_says e k v == 19) refl
  where
    by_plan : (b : Bool) → eqb (send_says e k v) 19 ≡ b
        → Walk (send_begun m k) p
        (cond b (raise_after m.side (sent_says (send_end e k v) x w == 2) (cond (x == 0) (loaded (Read (out_of m.side)) w ∷ loaded (Mask (out_of m.side)) x ∷ send_stores m.side (send_plan_of e k) p v) (loaded (Mask (out_of m.side)) x ∷ send_stores m.side (send_plan_of e k) p v))) (loaded (Read (out_of m.side)) v ∷ []))
        (cond b (sent_end (send_end e k v)) (send_end e k v))
        (cond b (sent_says (send_end e k v) x w) (send_says e k v))
    by_plan true h = planned_walk e m p k v x w s size small small' (grind (arith, nat_tests, h))
    by_plan false h = stopped_walk e m p k v s used h
