-- A planned send is that of the machine.
use Rattle.std.proofs.Common.{◌≡◌, ◌≢◌, ℕ, ◌+◌, ◌-◌, ◌*◌, ◌%◌, ◌/◌, ◌<◌, ◌≤◌, ◌^◌, Bool, true, false, ◌&&◌, cond, leb, ltb, eqb, List, [], ◌∷◌, length, Some, refl, sym, ap, ◌∙◌, subst, arith}
use Rattle.std.specs.Prelude.{slice_index}
use Rattle.std.proofs.lemmas.Bool.Decides.{nat_tests}
use Rattle.ring_machine.specs.declared.machine.Stage.{Stage}
use Rattle.ring_machine.specs.declared.machine.Stage.TheVariants.{Idle, SendCell, SendWrite, SendMask, SendLook, SendRaise}
use Rattle.ring_machine.specs.declared.machine.Ending.TheVariants.{SentQuiet, SentRaised}
use Rattle.ring_machine.specs.declared.machine.EndMachine.{EndMachine}
use Rattle.ring_machine.specs.declared.place.Place.TheVariants.{Write, Cell}
use Rattle.ring_machine.specs.declared.place.Op.TheVariants.{Store}
use Rattle.ring_machine.specs.Places.{out_of, is_index, cell_of, ahead, used, free, trailer, low, len8_of, offset8_of}
use Rattle.ring_machine.specs.Steps.{fed, ends, next_of, send_begun}
use Rattle.ring_call_plan.specs.declared.end.PlanEnd.{PlanEnd}
use Rattle.ring_call_plan.specs.declared.end.SendPlan.{SendPlan}
use Rattle.ring_call_plan.specs.Numbers.{is_formed, is_at, has_offset, before_wrap, fits, can_send, is_full, send_says, send_end, send_plan_of, send_planned, can_end_send, sent_says, sent_end}
use Rattle.ring_call_plan.specs.Shown.{state_at, Shows, feds}
use Rattle.ring_call_plan.specs.Plans.{said, offset_in, StoresBy, SendBegun, SendInside, SendEnded, asked}
use Rattle.ring_machine.specs.States.{IsPacket}
use Rattle.ring_machine.proofs.Sound.{cell_below}
use Rattle.ring_call_plan.proofs.Parts.{apart, offset_parts, when_true, true_is, false_is, at_twin, low_is, sending_at, rests, state_is, awake, unmarked, idle_shows}

-- the same tests, of the end and of the machine
index_same : (e : PlanEnd) (m : EndMachine) (v : ℕ) → Shows e m → is_index e.cells v ≡ is_index m.cells v
index_same e m v s = ap (λ n. is_index n v) (sym s.cells)

full_same : (e : PlanEnd) (m : EndMachine) (k v : ℕ) → Shows e m → is_full e k v ≡ leb (free m.cells (cell_of v) m.write) (k + 1)
full_same e m k v s = λ i. leb (free (sym s.cells i) (cell_of v) (sym s.write i)) (k + 1)

pub send_ready : (e : PlanEnd) (k : ℕ) → can_send e k ≡ true → (e.state ≡ 0) × (is_formed e ≡ true) × (fits e k ≡ true)
send_ready e k h = by_test (is_at 0 e) refl h
  where
    by_test : (t : Bool) → is_at 0 e ≡ t → (t && fits e k) ≡ true → (e.state ≡ 0) × (is_formed e ≡ true) × (fits e k ≡ true)
    by_test true i j = let z = state_is e 0 (is_formed e) i in (z.0, z.1, j)
    by_test false i j = absurd (cc)

module _ (e : PlanEnd) (m : EndMachine) (k v : ℕ) (s : Shows e m) (can : can_send e k ≡ true) where
  idle_state : state_at Idle m ≡ e.state
  idle_state = sym (ap (λ (st : Stage). state_at st m) (rests e m s (send_ready e k can).0).0) ∙ s.state

  zero_is : e.state ≡ 0
  zero_is = (send_ready e k can).0

  begun_shows : Shows (send_end e k v) (fed (send_begun m k) v)
  begun_shows = when_true (λ (x : PlanEnd). Shows x (fed (send_begun m k) v)) (can_send e k) _ _ can
      (at_twin Shows (is_index e.cells v) (is_index m.cells v) _ _ _ _ (index_same e m v s)
      (λ _. at_twin Shows (is_full e k v) (leb (free m.cells (cell_of v) m.write) (k + 1)) _ _ _ _ (full_same e m k v s)
      (λ _. record { cells = s.cells; write = s.write; read = s.read; start = s.start; seen = refl; len = refl; want = s.want; state = idle_state; done = refl; asleep = s.asleep; marked = s.marked })
      (λ _. record { cells = s.cells; write = s.write; read = s.read; start = s.start; seen = refl; len = refl; want = s.want; state = refl; done = refl; asleep = awake e m 0 s zero_is refl; marked = unmarked e m 0 s zero_is refl }))
      (λ _. record { cells = s.cells; write = s.write; read = s.read; start = s.start; seen = s.seen; len = refl; want = s.want; state = refl; done = refl; asleep = awake e m 0 s zero_is refl; marked = unmarked e m 0 s zero_is refl }))

  begun_says : send_says e k v ≡ said (fed (send_begun m k) v)
  begun_says = when_true (λ (x : ℕ). x ≡ said (fed (send_begun m k) v)) (can_send e k) _ _ can
      (at_twin (λ (x : ℕ) (y : EndMachine). x ≡ said y) (is_index e.cells v) (is_index m.cells v) _ _ _ _ (index_same e m v s)
      (λ _. at_twin (λ (x : ℕ) (y : EndMachine). x ≡ said y) (is_full e k v) (leb (free m.cells (cell_of v) m.write) (k + 1)) _ _ _ _ (full_same e m k v s) (λ _. refl) (λ _. refl))
      (λ _. refl))

-- the cells of a send
offset_is : (n w k j : ℕ) → w < n → k + 1 < n → j < k → 8 * ahead n w j ≡ offset_in (8 * w) (before_wrap n w k) j
offset_is n w k j a b c = grind (arith, nat_tests)

-- a send whose next step stores the cell j of its packet, one whose stores of cells are made, and one that stored the write index too
abbrev storing : EndMachine → ℕ → EndMachine
storing m j = record m { stage = SendCell; done = j }

abbrev writing : EndMachine → EndMachine
writing m = record m { stage = SendWrite; done = m.len }

abbrev masking : EndMachine → EndMachine
masking m = record m { stage = SendMask; done = m.len; old = m.write; write = ahead m.cells m.write (m.len + 1) }

module _ (m : EndMachine) (i : m.stage ≡ SendCell) (z : m.done ≡ 0) where
  pub stored : (ws : List ℕ) → length ws ≤ m.len → feds m ws ≡ storing m (length ws)
  stored [] h = λ j. record m { stage = i j; done = z j }
  stored (x ∷ ws) h =
      let less : length ws < m.len = omega (arith, h) in
      let before : feds m ws ≡ storing m (length ws) = stored ws (omega (arith, h)) in
      ap (λ (k : EndMachine). fed k x) before
      ∙ true_is (ltb (length ws) m.len) (storing m (length ws + 1)) (record (storing m (length ws)) { stage = SendWrite }) (grind (arith, nat_tests, less))
      ∙ ap (storing m) (omega arith)

  pub stored_all : (ws : List ℕ) → length ws ≡ m.len + 1 → feds m ws ≡ writing m
  stored_all [] h = absurd (omega (arith, h))
  stored_all (x ∷ ws) h =
      let all : length ws ≡ m.len = omega (arith, h) in
      ap (λ (k : EndMachine). fed k x) (stored ws (omega (arith, all)) ∙ ap (storing m) all)
      ∙ false_is (ltb m.len m.len) (storing m (m.len + 1)) (writing m) (grind (arith, nat_tests))

  pub written : (ws : List ℕ) → length ws ≡ m.len + 2 → feds m ws ≡ masking m
  written [] h = absurd (omega (arith, h))
  written (x ∷ ws) h = ap (λ (k : EndMachine). fed k x) (stored_all ws (omega (arith, h)))

  pub stores_by : (e : PlanEnd) (k : ℕ) (p : List ℕ) → m.cells ≡ e.cells → m.write ≡ e.write → m.len ≡ k → e.write < e.cells → k + 1 < e.cells → length p ≡ k → StoresBy m p (send_plan_of e k)
  stores_by e k p cells write len a b size = record {
    words = λ ws h.
        let j : ℕ = length ws in
        let less : j < k = omega (arith, h, size) in
        ap (λ (x : EndMachine). next_of x p) (stored ws (omega (arith, less, len)))
        ∙ (λ t. Some (Store (Cell (out_of m.side) ((ap (λ (n : ℕ). 8 * ahead n m.write j) cells ∙ ap (λ (w : ℕ). 8 * ahead e.cells w j) write ∙ offset_is e.cells e.write k j a b less) t))
        (true_is (ltb j m.len) (slice_index p j) (trailer m.write) (grind (arith, nat_tests, less, len)) t)));
    trailer = λ ws h.
        let j : ℕ = length ws in
        let same : j ≡ k = h ∙ size in
        ap (λ (x : EndMachine). next_of x p) (stored ws (omega (arith, same, len)))
        ∙ (λ t. Some (Store (Cell (out_of m.side) ((ap (λ (n : ℕ). 8 * ahead n m.write j) cells ∙ ap (λ (w : ℕ). 8 * ahead e.cells w j) write ∙ ap (λ (y : ℕ). 8 * ahead e.cells e.write y) same) t))
        ((false_is (ltb j m.len) (slice_index p j) (trailer m.write) (grind (arith, nat_tests, same, len)) ∙ ap trailer write) t)));
    write = λ ws h.
        ap (λ (x : EndMachine). next_of x p) (stored_all ws (omega (arith, h, size, len)))
        ∙ (λ t. Some (Store (Write (out_of m.side)) ((ap (λ (n : ℕ). 8 * ahead n m.write (m.len + 1)) cells ∙ ap (λ (w : ℕ). 8 * ahead e.cells w (m.len + 1)) write ∙ ap (λ (y : ℕ). 8 * ahead e.cells e.write (y + 1)) len) t)));
  }

planned_by : (b c d : Bool) → cond b (cond c (cond {A = ℕ} d 3 19) 4) 0 ≡ 19 → (b ≡ true) × (c ≡ true) × (d ≡ false)
planned_by true true true h = absurd (cc)
planned_by true true false h = (refl, refl, refl)
planned_by true false d h = absurd (cc)
planned_by false c d h = absurd (cc)

pub used_by : (b c d : Bool) → cond b (cond c (cond {A = ℕ} d 3 19) 4) 0 ≢ 0 → b ≡ true
used_by true c d h = refl
used_by false c d h = absurd (h refl)

pub fits_parts : (e : PlanEnd) (k : ℕ) → fits e k ≡ true → k + 1 < e.cells
fits_parts e k h = grind (arith, nat_tests, h)

write_below : (e : PlanEnd) → is_formed e ≡ true → e.write < e.cells
write_below e h = grind (arith, nat_tests, h)

pub begun : (e : PlanEnd) (m : EndMachine) (k v : ℕ) (q : SendPlan) → Shows e m → send_says e k v ≢ 0 → SendBegun m k v (send_says e k v) (send_end e k v) (send_planned e k v q)
begun e m k v q s used =
    let can : can_send e k ≡ true = used_by (can_send e k) (is_index e.cells v) (is_full e k v) used in
    let r = send_ready e k can in
    record {
      shows = begun_shows e m k v s can;
      says = begun_says e m k v s can;
      stores = λ one p size.
          let at = planned_by (can_send e k) (is_index e.cells v) (is_full e k v) one in
          let plan : send_planned e k v q ≡ send_plan_of e k =
          true_is (can_send e k) _ _ can ∙ true_is (is_index e.cells v) _ _ at.1 ∙ false_is (is_full e k v) _ _ at.2 in
          let m' : EndMachine = record (send_begun m k) { stage = SendCell; seen = cell_of v; done = 0 } in
          let is : fed (send_begun m k) v ≡ m' =
          true_is (is_index m.cells v) _ _ (sym (index_same e m v s) ∙ at.1) ∙ false_is (leb (free m.cells (cell_of v) m.write) (k + 1)) _ _ (sym (full_same e m k v s) ∙ at.2) in
          subst (λ (x : EndMachine). StoresBy x p (send_planned e k v q)) (sym is)
          (subst (λ (x : SendPlan). StoresBy m' p x) (sym plan)
          (stores_by m' refl refl e k p s.cells s.write refl (write_below e r.1) (fits_parts e k r.2) size));
    }

pub begun_as : (e : PlanEnd) (k v : ℕ) (q : SendPlan) (a : ℕ) (e' : PlanEnd) (q' : SendPlan) → a ≡ send_says e k v → e' ≡ send_end e k v → q' ≡ send_planned e k v q → (m : EndMachine) → Shows e m → a ≢ 0 → SendBegun m k v a e' q'
begun_as e k v q a e' q' says end plan m s used =
    subst (λ (x : ℕ). SendBegun m k v x e' q') (sym says)
    (subst (λ (x : PlanEnd). SendBegun m k v (send_says e k v) x q') (sym end)
    (subst (λ (x : SendPlan). SendBegun m k v (send_says e k v) (send_end e k v) x) (sym plan)
    (begun e m k v q s (subst (λ (x : ℕ). x ≢ 0) says used))))

-- the plan lies in the ring
ahead_in : (n i k : ℕ) → i < n → k < n → 8 * ahead n i k < 8 * n
ahead_in n i k a b = grind (arith, nat_tests)

runs_in : (n w k : ℕ) → w < n → k + 1 < n → (before_wrap n w k + (k - before_wrap n w k) ≡ k) × (8 * w + 8 * before_wrap n w k ≤ 8 * n) × (8 * (k - before_wrap n w k) ≤ 8 * w)
runs_in n w k a b = ((grind (arith, nat_tests)), (grind (arith, nat_tests)), (grind (arith, nat_tests)))

eight_whole : (x : ℕ) → 8 * x % 8 ≡ 0
eight_whole x = omega arith

eight_back : (x : ℕ) → 8 * x / 8 ≡ x
eight_back x = omega arith

-- the cell that is j past the write index is j past what the ring holds
ahead_used : (n r w j : ℕ) → r < n → w < n → used n r w + j < n → used n r (ahead n w j) ≡ used n r w + j
ahead_used n r w j a b c = grind (arith, nat_tests)

room_used : (n r w k : ℕ) → r < n → w < n → leb (free n r w) (k + 1) ≡ false → used n r w + k + 1 < n
room_used n r w k a b h = grind (arith, nat_tests, h)

plan_inside : (e : PlanEnd) (r k : ℕ) → e.write < e.cells → k + 1 < e.cells → r < e.cells → leb (free e.cells r e.write) (k + 1) ≡ false → SendInside e.cells e.write r k (send_plan_of e k)
plan_inside e r k a b d room =
    let it = runs_in e.cells e.write k a b in
    let less : used e.cells r e.write + k + 1 < e.cells = room_used e.cells r e.write k d a room in
    record {
      all = it.0;
      first = it.1;
      second = it.2;
      trailer = ahead_in e.cells e.write k a (omega (arith, b));
      write = ahead_in e.cells e.write (k + 1) a b;
      whole = (eight_whole e.write, eight_whole (ahead e.cells e.write k), eight_whole (ahead e.cells e.write (k + 1)));
      free = λ j h. ap (λ (x : ℕ). used e.cells r (x / 8)) (sym (offset_is e.cells e.write k j a b h)) ∙ ap (used e.cells r) (eight_back (ahead e.cells e.write j)) ∙ ahead_used e.cells r e.write j d a (omega (arith, less, h));
      behind = ap (used e.cells r) (eight_back (ahead e.cells e.write k)) ∙ ahead_used e.cells r e.write k d a (omega (arith, less));
    }

pub inside_as : (e : PlanEnd) (k v : ℕ) (q : SendPlan) (a : ℕ) (q' : SendPlan) → a ≡ send_says e k v → q' ≡ send_planned e k v q → a ≡ 19 → SendInside e.cells e.write (cell_of v) k q'
inside_as e k v q a q' says plan one =
    let at = planned_by (can_send e k) (is_index e.cells v) (is_full e k v) (sym says ∙ one) in
    let r = send_ready e k at.0 in
    subst (SendInside e.cells e.write (cell_of v) k) (sym (plan ∙ true_is (can_send e k) _ _ at.0 ∙ true_is (is_index e.cells v) _ _ at.1 ∙ false_is (is_full e k v) _ _ at.2))
    (plan_inside e (cell_of v) k (write_below e r.1) (fits_parts e k r.2) (cell_below e.cells v at.1) at.2)

-- a packet whose first word is in form
pub packet_is : (h : ℕ) → has_offset h ≡ true → (p : List ℕ) → length p ≡ len8_of h → slice_index p 0 ≡ h → IsPacket p
packet_is h t p size first =
    let o = offset_parts h t in
    record {
      two = omega (arith, o.0, o.1, size);
      length_is = ap len8_of first ∙ sym size;
      offset = (subst (λ (x : ℕ). 2 ≤ offset8_of x) (sym first) o.0, subst (λ (x : ℕ). offset8_of x ≤ length p) (sym first) (subst (λ (x : ℕ). offset8_of h ≤ x) (sym size) o.1));
    }

-- The end of a send
abbrev ends_says : Bool → Bool → ℕ
ends_says a b = cond a (cond b 2 1) 1

abbrev sent_to : PlanEnd → PlanEnd
sent_to e = record e { write = ahead e.cells e.write (e.len + 1); state = 0 }

abbrev looking : EndMachine → EndMachine
looking m = record (masking m) { stage = SendLook }

abbrev raising : EndMachine → EndMachine
raising m = record (masking m) { stage = SendRaise }

module _ (e : PlanEnd) (m : EndMachine) (ws : List ℕ) (x v : ℕ) (s : Shows e m) (two : e.state ≡ 2) (formed : is_formed e ≡ true) (size : length ws ≡ e.len + 2) (small : x < 2 ^ 32) (small' : v < 2 ^ 32) where
  all : feds m ws ≡ masking m
  all = written m (sending_at m.stage m (s.state ∙ two)) s.done ws (size ∙ ap (λ (k : ℕ). k + 2) (sym s.len))

  zero : eqb x 0 ≡ eqb (low x) 0
  zero = ap (λ (y : ℕ). eqb y 0) (sym (low_is x small))

  same : eqb v (8 * e.write) ≡ eqb (low v) (8 * m.write)
  same = λ i. eqb (sym (low_is v small') i) (8 * sym s.write i)

  -- an ended send, however it ended
  rest_shows : (w : EndMachine) → w.cells ≡ m.cells → w.write ≡ ahead m.cells m.write (m.len + 1) → w.read ≡ m.read → w.start ≡ m.start → w.seen ≡ m.seen → w.len ≡ m.len → w.want ≡ m.want → w.stage ≡ Idle → w.done ≡ 0 → w.asleep ≡ m.asleep → w.marked ≡ m.marked → Shows (sent_to e) w
  rest_shows w c wr r t se l wa st d a k =
      let a' : w.asleep ≡ false = a ∙ awake e m 2 s two refl in
      let k' : w.marked ≡ false = k ∙ unmarked e m 2 s two refl in
      record {
        cells = c ∙ s.cells;
        write = wr ∙ (λ i. ahead (s.cells i) (s.write i) (s.len i + 1));
        read = r ∙ s.read;
        start = t ∙ s.start;
        seen = se ∙ s.seen;
        len = l ∙ s.len;
        want = wa ∙ s.want;
        state = ap (λ (z : Stage). state_at z w) st ∙ idle_shows w a' k';
        done = d;
        asleep = a';
        marked = k';
      }

  quiet_shows : Shows (sent_to e) (ends (masking m) SentQuiet)
  quiet_shows = rest_shows _ refl refl refl refl refl refl refl refl refl refl refl

  after_mask : (b : Bool) → eqb x 0 ≡ b → feds m (x ∷ ws) ≡ cond b (looking m) (ends (masking m) SentQuiet)
  after_mask b h = ap (λ (k : EndMachine). fed k x) all ∙ ap (λ (t : Bool). cond t (looking m) (ends (masking m) SentQuiet)) (sym zero ∙ h)

  after_look : (b : Bool) → eqb x 0 ≡ true → eqb v (8 * e.write) ≡ b → feds m (v ∷ x ∷ ws) ≡ cond b (raising m) (ends (looking m) SentQuiet)
  after_look b h g = ap (λ (k : EndMachine). fed k v) (after_mask true h) ∙ ap (λ (t : Bool). cond t (raising m) (ends (looking m) SentQuiet)) (sym same ∙ g)

  asked_is : (b : Bool) → eqb x 0 ≡ b → asked x v ws ≡ cond b (v ∷ x ∷ ws) (x ∷ ws)
  asked_is b h = ap (λ (t : Bool). cond t (v ∷ x ∷ ws) (x ∷ ws)) h

  by_tests : (b c : Bool) → eqb x 0 ≡ b → eqb v (8 * e.write) ≡ c → SendEnded m ws x v (ends_says b c) (sent_to e)
  by_tests true true h g =
      let is : feds m (asked x v ws) ≡ (raising m) = ap (feds m) (asked_is true h) ∙ after_look true h g in
      let ends_in : (y : ℕ) → feds m (y ∷ asked x v ws) ≡ ends (raising m) SentRaised = λ y. ap (λ (k : EndMachine). fed k y) is in
      record {
        mask = λ p. ap (λ (k : EndMachine). next_of k p) all;
        look = λ _ p. ap (λ (k : EndMachine). next_of k p) (after_mask true h);
        quiet = λ z. absurd (apart 2 1 refl z);
        raise = λ _ p. ap (λ (k : EndMachine). next_of k p) is;
        raised = λ _ y. (subst (Shows (sent_to e)) (sym (ends_in y)) (rest_shows _ refl refl refl refl refl refl refl refl refl refl refl), ap (λ (k : EndMachine). k.ended) (ends_in y));
      }
  by_tests true false h g =
      let is : feds m (asked x v ws) ≡ ends (looking m) SentQuiet = ap (feds m) (asked_is true h) ∙ after_look false h g in
      record {
        mask = λ p. ap (λ (k : EndMachine). next_of k p) all;
        look = λ _ p. ap (λ (k : EndMachine). next_of k p) (after_mask true h);
        quiet = λ _. (subst (Shows (sent_to e)) (sym is) (rest_shows _ refl refl refl refl refl refl refl refl refl refl refl), ap (λ (k : EndMachine). k.ended) is);
        raise = λ z. absurd (apart 1 2 refl z);
        raised = λ z. absurd (apart 1 2 refl z);
      }
  by_tests false c h g =
      let is : feds m (asked x v ws) ≡ ends (masking m) SentQuiet = ap (feds m) (asked_is false h) ∙ after_mask false h in
      record {
        mask = λ p. ap (λ (k : EndMachine). next_of k p) all;
        look = λ (z : x ≡ 0). absurd (let f : eqb x 0 ≡ true = grind (arith, nat_tests, z) in let t : true ≡ false = sym f ∙ h in cc);
        quiet = λ _. (subst (Shows (sent_to e)) (sym is) quiet_shows, ap (λ (k : EndMachine). k.ended) is);
        raise = λ z. absurd (apart 1 2 refl z);
        raised = λ z. absurd (apart 1 2 refl z);
      }

pub ended_as : (e : PlanEnd) (x v a : ℕ) (n : PlanEnd) → x < 2 ^ 32 → v < 2 ^ 32 → a ≡ sent_says e x v → n ≡ sent_end e → (m : EndMachine) → Shows e m → a ≢ 0 → (ws : List ℕ) → length ws ≡ e.len + 2 → SendEnded m ws x v a n
ended_as e x v a n small small' says end m s used ws size = by_can (can_end_send e) refl
  where
    by_can : (b : Bool) → can_end_send e ≡ b → SendEnded m ws x v a n
    by_can false h = absurd (used (says ∙ false_is (can_end_send e) _ _ h))
    by_can true h =
        let at : is_at 2 e ≡ true = (let z = h in grind (arith, nat_tests, z)) in
        let r = state_is e 2 (is_formed e) at in
        subst (λ (y : ℕ). SendEnded m ws x v y n) (sym (says ∙ true_is (can_end_send e) _ _ h))
        (subst (λ (y : PlanEnd). SendEnded m ws x v (ends_says (eqb x 0) (eqb v (8 * e.write))) y) (sym (end ∙ true_is (can_end_send e) _ _ h))
        (by_tests e m ws x v s r.0 r.1 size small small' (eqb x 0) (eqb v (8 * e.write)) refl refl))
