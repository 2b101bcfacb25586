-- Each step of an end keeps what its peer's looks have found: it raises the peer's signal where the peer may wait for what the step did.
use Rattle.std.proofs.Common.{rules, ⊎_elim, ◌≡◌, ◌≢◌, ◌⊎◌, ℕ, ◌*◌, ◌%◌, ◌<◌, ◌≤◌, Bool, true, false, ◌||◌, ◌&&◌, not, cond, eqb, refl, sym, ap, ◌∙◌, subst, arith, inl, inr}
use Rattle.std.proofs.lemmas.Bool.Decides.{nat_tests}
use Rattle.ring_machine.specs.declared.machine.Stage.{Stage}
use Rattle.ring_machine.specs.declared.machine.Stage.TheVariants.{Idle, SendWrite, SendMask, SendLook, SendRaise, CommitRead, CommitFeature, CommitPending, CommitWrite, CommitRaise, ArmPending, ArmRead, ArmMark, MarkStore, MarkRaise}
use Rattle.ring_machine.specs.declared.machine.EndMachine.{EndMachine}
use Rattle.ring_machine.specs.Places.{low, is_index, free, raises_on_commit}
use Rattle.ring_machine.specs.Steps.{IsSound, fed, fed_at, makes_room, sleeps_at, is_arming_at}
use Rattle.ring_machine.specs.Loops.{is_given_at}
use Rattle.ring_machine.proofs.Sound.{at_cond}
use Rattle.ring_pair_laws.specs.Ring.{is_marking_at}
use Rattle.ring_pair_laws.proofs.Turns.{low_is, index_here}
use Rattle.ring_seat.specs.Points.{AtPoint, is_unmasked_at, pending_at, pending_of}
use Rattle.ring_seat.specs.Waking.{packets_looked_at, packets_looked, room_looked_at, room_looked, is_sent_at, is_weighing_at, IsSendingFrom, IsGivingBack}
use Rattle.ring_seat.proofs.Waits.{raised_after}
use Rattle.ring_seat.proofs.WakeTables.{IsGiven, write_kept, start_kept, mark_kept}
use Rattle.ring_seat.proofs.OwnWakes.{Waking, KnownBy, three}

-- the second case always holds once the signal is raised
up : {A C : Type 0} → A ⊎ ((◌≢◌ {A = ℕ} 1 0) ⊎ C)
up = inr (inl (λ h. omega arith))

looked_unmasked : (st : Stage) (a : Bool) → (packets_looked_at st || a) ≡ true → (is_unmasked_at st || a) ≡ true
looked_unmasked Idle a h = h
looked_unmasked _ a h = search rules

looked_commits : (st : Stage) (a : Bool) → (packets_looked_at st || a) ≡ true → (is_arming_at st ≡ true) ⊎ (a ≡ true)
looked_commits ArmRead a h = inl refl
looked_commits ArmMark a h = inl refl
looked_commits _ a h = inr h

-- k sleeps, and m makes a step
module _ (m k : EndMachine) (v own sig : ℕ) (s : IsSound m) (t : IsSound k) (q : AtPoint k) (given : IsGiven m) (same : k.cells ≡ m.cells) (w : Waking sig k m) where
  -- the sleeper's mask is 0, and it has given back all that it took
  unmasked : packets_looked k ≡ true → k.masked ≡ false
  unmasked h = q.masked ∙ ap not (looked_unmasked k.stage k.asleep h)

  committed : packets_looked k ≡ true → k.start ≡ k.read
  committed h = ⊎_elim t.arming (λ a. (t.asleep a).1) (looked_commits k.stage k.asleep h)

  -- the room that the sleeper wants is what it stored
  stored_want : room_looked k ≡ true → pending_of k ≡ k.want
  stored_want h = by_stage k.stage refl
    where
      by_stage : (st : Stage) → k.stage ≡ st → pending_at st k.want ≡ k.want
      by_stage ArmPending e = let a : k.asleep ≡ true = sym (ap (λ (z : Stage). room_looked_at z || k.asleep) e) ∙ h in let b : sleeps_at ArmPending ≡ true = sym (ap sleeps_at e) ∙ (t.asleep a).2 in absurd (cc)
      by_stage _ e = refl

  abbrev Packets : ℕ → EndMachine → Type 0
  Packets c a = packets_looked k ≡ true → (a.write ≡ k.read) ⊎ ((c ≢ 0) ⊎ IsSendingFrom a k.read)

  abbrev Room : ℕ → EndMachine → Type 0
  Room c a = room_looked k ≡ true → k.want ≢ 0 → (8 * free k.cells a.start k.write ≤ k.want) ⊎ ((c ≢ 0) ⊎ IsGivingBack a k.cells k.write k.want)

  abbrev Mark : ℕ → EndMachine → Type 0
  Mark c a = k.asleep ≡ true → ((a.marked || is_marking_at a.stage) ≡ false) ⊎ ((c ≢ 0) ⊎ (a.stage ≡ MarkRaise))

  not_sent : (st : Stage) → m.stage ≡ st → is_sent_at st ≡ false → {A : Type 0} → IsSendingFrom m k.read → A
  not_sent st e h a = absurd (let yes : is_sent_at st ≡ true = sym (ap is_sent_at e) ∙ a.past in cc)

  not_given : (st : Stage) → m.stage ≡ st → is_given_at st ≡ false → {A : Type 0} → IsGivingBack m k.cells k.write k.want → A
  not_given st e h a = absurd (let yes : is_given_at st ≡ true = sym (ap is_given_at e) ∙ a.past in cc)

  -- a step outside a send, or inside it where the send goes on
  packets_rest : (st : Stage) → m.stage ≡ st → is_sent_at st ≡ false → st ≢ SendWrite → Packets sig (fed_at st m v)
  packets_rest st e h ne looked = three (λ a. write_kept m v st ne ∙ a) (not_sent st e h) (w.packets looked)

  room_rest : (st : Stage) → m.stage ≡ st → is_given_at st ≡ false → st ≢ CommitRead → Room sig (fed_at st m v)
  room_rest st e h ne looked wants = three (λ (a : 8 * free k.cells m.start k.write ≤ k.want). subst (λ (c : ℕ). 8 * free k.cells c k.write ≤ k.want) (sym (start_kept m v st ne)) a) (not_given st e h) (w.room looked wants)

  mark_rest : (st : Stage) → m.stage ≡ st → st ≢ MarkStore → st ≢ MarkRaise → Mark sig (fed_at st m v)
  mark_rest st e ne nr asleep = three (λ a. mark_kept m v st e ne ∙ a) (λ (a : m.stage ≡ MarkRaise). absurd (nr (sym e ∙ a))) (w.mark asleep)

  mask_is : v ≡ cond k.masked 1 0 → packets_looked k ≡ true → eqb (low v) 0 ≡ true
  mask_is is h = let zero_is : v ≡ 0 = is ∙ ap (λ (b : Bool). cond b 1 0) (unmasked h) in ap (λ (c : ℕ). eqb (low c) 0) zero_is

  look_is : v ≡ 8 * k.start → packets_looked k ≡ true → m.old ≡ k.read → eqb (low v) (8 * m.old) ≡ true
  look_is is h from =
      let exact : low v ≡ v = ap low is ∙ (low_is k.cells k.start t.cells.1 t.start ∙ sym is) in
      let found : low v ≡ 8 * m.old = exact ∙ (is ∙ ap (λ (c : ℕ). 8 * c) (committed h ∙ sym from)) in
      grind (arith, nat_tests)

  sent_now : m.stage ≡ SendWrite → (m.write ≡ k.read) ⊎ ((sig ≢ 0) ⊎ IsSendingFrom m k.read) → ((fed_at SendWrite m v).write ≡ k.read) ⊎ ((sig ≢ 0) ⊎ IsSendingFrom (fed_at SendWrite m v) k.read)
  sent_now e (inl a) = inr (inr (record { past = refl; from = a }))
  sent_now e (inr (inl b)) = inr (inl b)
  sent_now e (inr (inr c)) = not_sent SendWrite e refl c

  packets_by : (st : Stage) → m.stage ≡ st → KnownBy st own k v → Packets (raised_after st sig) (fed_at st m v)
  packets_by SendWrite e l = λ looked. sent_now e (w.packets looked)
  packets_by SendMask e l = at_cond (Packets sig) (eqb (low v) 0) _ _ (λ u looked. three (λ a. a) (λ (a : IsSendingFrom m k.read). record { past = refl; from = a.from }) (w.packets looked)) (λ u looked. absurd (let yes : eqb (low v) 0 ≡ true = mask_is l looked in cc))
  packets_by SendLook e l = at_cond (Packets sig) (eqb (low v) (8 * m.old)) _ _ (λ u looked. three (λ a. a) (λ (a : IsSendingFrom m k.read). record { past = refl; from = a.from }) (w.packets looked)) (λ u looked. three (λ a. a) (λ (a : IsSendingFrom m k.read). absurd (let yes : eqb (low v) (8 * m.old) ≡ true = look_is l looked a.from in cc)) (w.packets looked))
  packets_by SendRaise e l = λ looked. up
  packets_by CommitRaise e l = λ looked. up
  packets_by MarkRaise e l = λ looked. up
  packets_by _ e l = packets_rest _ e refl (λ h. cc)

  -- A commit that is quiet at its load of write: there is no more room than is wanted
  no_more : v ≡ 8 * k.write → m.start ≡ m.read → 8 * free k.cells m.old k.write ≤ k.want → m.value ≡ k.want → makes_room m v ≡ false → 8 * free k.cells m.start k.write ≤ k.want
  no_more is started room value h =
      let exact : low v ≡ v = ap low is ∙ (low_is k.cells k.write t.cells.1 t.write ∙ sym is) in
      let form : is_index m.cells v ≡ true = subst (λ (c : ℕ × ℕ). is_index c.0 c.1 ≡ true) (λ j. (same j, sym is j)) (index_here k.cells k.write t.cells.1 t.write) in
      let quiet : raises_on_commit (8 * m.cells) (8 * k.write) (8 * m.old) (8 * m.read) k.want ≡ false = (λ j. raises_on_commit (8 * m.cells) (sym (exact ∙ is) j) (8 * m.old) (8 * m.read) (sym value j)) ∙ and_no (is_index m.cells v) _ form h in
      subst (λ (c : ℕ × ℕ). 8 * free c.0 c.1 k.write ≤ k.want) (λ j. (sym same j, sym started j))
      (weigh m.cells k.write m.old m.read k.want (omega (arith, t.write, same)) s.old s.read (subst (λ (c : ℕ). 8 * free c m.old k.write ≤ k.want) same room) quiet)
    where
      and_no : (a b : Bool) → a ≡ true → (a && b) ≡ false → b ≡ false
      and_no a b i j = cc

      weigh : (n b old read want : ℕ) → b < n → old < n → read < n → 8 * free n old b ≤ want → raises_on_commit (8 * n) (8 * b) (8 * old) (8 * read) want ≡ false → 8 * free n read b ≤ want
      weigh n b old read want i j g few still = grind (arith, nat_tests)

  gives : m.stage ≡ CommitRead → (8 * free k.cells m.start k.write ≤ k.want) ⊎ ((sig ≢ 0) ⊎ IsGivingBack m k.cells k.write k.want)
      → (8 * free k.cells m.read k.write ≤ k.want) ⊎ ((sig ≢ 0) ⊎ IsGivingBack (fed_at CommitRead m v) k.cells k.write k.want)
  gives e (inl a) = inr (inr (record { past = refl; room = a; loaded = λ h. absurd (cc) }))
  gives e (inr (inl b)) = inr (inl b)
  gives e (inr (inr c)) = not_given CommitRead e refl c

  wanted : room_looked k ≡ true → v ≡ pending_of k → low v ≡ k.want
  wanted looked is =
      let exact : v ≡ k.want = is ∙ stored_want looked in
      let small : k.want < 4294967296 = omega (arith, t.want, t.cells.1) in
      ap low exact ∙ omega arith

  weighed : m.stage ≡ CommitWrite → IsGivingBack m k.cells k.write k.want → m.value ≡ k.want
  weighed e a = a.loaded (ap is_weighing_at e)

  quiet_room : {A B C D : Type 0} → (C → A) → A ⊎ (B ⊎ C) → A ⊎ (B ⊎ D)
  quiet_room f (inl a) = inl a
  quiet_room f (inr (inl b)) = inr (inl b)
  quiet_room f (inr (inr c)) = inl (f c)

  room_by : (st : Stage) → m.stage ≡ st → KnownBy st own k v → Room (raised_after st sig) (fed_at st m v)
  room_by SendRaise e l = λ looked wants. up
  room_by CommitRead e l = λ looked wants. gives e (w.room looked wants)
  room_by CommitFeature e l = at_cond (Room sig) (eqb (low v % 2) 1) _ _ (λ u looked wants. three (λ a. a) (λ (a : IsGivingBack m k.cells k.write k.want). record { past = refl; room = a.room; loaded = λ h. absurd (cc) }) (w.room looked wants)) (λ u. absurd (let yes : eqb (low v % 2) 1 ≡ true = ap (λ (c : ℕ). eqb (low c % 2) 1) l in cc))
  room_by CommitPending e l = at_cond (Room sig) (eqb (low v) 0) _ _ (λ u looked wants. absurd (wants (let none : low v ≡ 0 = grind (arith, nat_tests) in sym (wanted looked l) ∙ none))) (λ u looked wants. three (λ a. a) (λ (a : IsGivingBack m k.cells k.write k.want). record { past = refl; room = a.room; loaded = λ h. wanted looked l }) (w.room looked wants))
  room_by CommitWrite e l = at_cond (Room sig) (makes_room m v) _ _ (λ u looked wants. three (λ a. a) (λ (a : IsGivingBack m k.cells k.write k.want). record { past = refl; room = a.room; loaded = λ h. weighed e a }) (w.room looked wants)) (λ u looked wants. quiet_room (λ (a : IsGivingBack m k.cells k.write k.want). no_more l (given (ap is_given_at e)) a.room (weighed e a) u) (w.room looked wants))
  room_by CommitRaise e l = λ looked wants. up
  room_by MarkRaise e l = λ looked wants. up
  room_by _ e l = room_rest _ e refl (λ h. cc)

  mark_by : (st : Stage) → m.stage ≡ st → Mark (raised_after st sig) (fed_at st m v)
  mark_by SendRaise e = λ asleep. up
  mark_by CommitRaise e = λ asleep. up
  mark_by MarkStore e = λ asleep. inr (inr refl)
  mark_by MarkRaise e = λ asleep. up
  mark_by _ e = mark_rest _ e (λ h. cc) (λ h. cc)

  pub peers_waking : KnownBy m.stage own k v → Waking (raised_after m.stage sig) k (fed m v)
  peers_waking l = record { packets = packets_by m.stage refl l; room = room_by m.stage refl l; mark = mark_by m.stage refl }
