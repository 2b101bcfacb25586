-- Each step of an end keeps what its own looks have found.
use Rattle.std.proofs.Common.{rules, ◌≡◌, ◌≢◌, ◌⊎◌, ℕ, ◌*◌, ◌≤◌, Bool, true, false, ◌||◌, not, cond, ltb, eqb, refl, sym, ap, ◌∙◌, subst, arith, inl, inr}
use Rattle.std.proofs.lemmas.Bool.Decides.{nat_tests}
use Rattle.ring_machine.specs.declared.machine.Stage.{Stage}
use Rattle.ring_machine.specs.declared.machine.Stage.TheVariants.{Idle, Stopped, SendMask, SendLook, CommitFeature, CommitPending, CommitWrite, ArmWrite, ArmRead, ArmMark, PollSignal, MarkRaise}
use Rattle.ring_machine.specs.declared.machine.Ending.TheVariants.{NoSignal}
use Rattle.ring_machine.specs.declared.machine.EndMachine.{EndMachine}
use Rattle.ring_machine.specs.Places.{low, is_index, cell_of, free}
use Rattle.ring_machine.specs.Steps.{IsSound, fed, fed_at, finds_room, sleeps_at}
use Rattle.ring_machine.proofs.Sound.{at_cond, no_true}
use Rattle.ring_pair_laws.specs.Ring.{is_marking_at}
use Rattle.ring_pair_laws.proofs.Turns.{low_is, cell_here}
use Rattle.ring_seat.specs.Points.{AtPoint, pending_of}
use Rattle.ring_seat.specs.Waking.{packets_looked_at, packets_looked, room_looked_at, room_looked, IsSendingFrom, IsGivingBack}
use Rattle.ring_seat.proofs.Waits.{signal_after}
use Rattle.ring_seat.proofs.PointLaws.{awake_at}
use Rattle.ring_seat.proofs.WakeTables.{Shut}

-- What an end's looks have found, by the machines of both ends and the end's signal
pub record Waking (sig : ℕ) (m k : EndMachine) : Type 0 where
  pub packets : packets_looked m ≡ true → (k.write ≡ m.read) ⊎ ((sig ≢ 0) ⊎ IsSendingFrom k m.read)
  pub room : room_looked m ≡ true → m.want ≢ 0 → (8 * free m.cells k.start m.write ≤ m.want) ⊎ ((sig ≢ 0) ⊎ IsGivingBack k m.cells m.write m.want)
  pub mark : m.asleep ≡ true → ((k.marked || is_marking_at k.stage) ≡ false) ⊎ ((sig ≢ 0) ⊎ (k.stage ≡ MarkRaise))

-- what a step loads, by the machines of both ends and the end's signal
abbrev pub KnownBy : Stage → ℕ → EndMachine → ℕ → Type 0
KnownBy SendMask sig k v = v ≡ cond k.masked 1 0
KnownBy SendLook sig k v = v ≡ 8 * k.start
KnownBy CommitFeature sig k v = v ≡ 1
KnownBy CommitPending sig k v = v ≡ pending_of k
KnownBy CommitWrite sig k v = v ≡ 8 * k.write
KnownBy ArmWrite sig k v = v ≡ 8 * k.write
KnownBy ArmRead sig k v = v ≡ 8 * k.start
KnownBy ArmMark sig k v = v ≡ cond (k.marked || is_marking_at k.stage) 1 0
KnownBy PollSignal sig k v = v ≡ sig
KnownBy _ sig k v = Unit {0}

-- where no look is in force there is nothing to show
pub shut_waking : (sig : ℕ) (m k : EndMachine) → Shut m → Waking sig m k
shut_waking sig m k s = record {
  packets = λ h. let never : packets_looked m ≡ false = (λ j. s.stage j || s.awake j) in absurd (cc);
  room = λ h. let never : room_looked m ≡ false = ap (λ (b : Bool). b || m.asleep) (room_shut m.stage s.stage) ∙ s.awake in absurd (cc);
  mark = λ h. absurd (let never : m.asleep ≡ false = s.awake in cc);
}
  where
    room_shut : (st : Stage) → packets_looked_at st ≡ false → room_looked_at st ≡ false
    room_shut ArmMark h = absurd (cc)
    room_shut _ h = refl

pub is_down : (b : Bool) → ◌≡◌ {A = ℕ} (cond b 1 0) 0 → b ≡ false
is_down true h = absurd (omega arith)
is_down false h = refl

pub or_yes : (b c : Bool) → c ≡ true → (b || c) ≡ true
or_yes true c i = refl
or_yes false c i = i

-- a look's three cases
pub three : {A A' B C C' : Type 0} → (A → A') → (C → C') → A ⊎ (B ⊎ C) → A' ⊎ (B ⊎ C')
three f g (inl a) = inl (f a)
three f g (inr (inl b)) = inr (inl b)
three f g (inr (inr c)) = inr (inr (g c))

-- the signal was down
down : {A B : Type 0} {sig : ℕ} → sig ≡ 0 → A ⊎ ((sig ≢ 0) ⊎ B) → A ⊎ ((◌≢◌ {A = ℕ} 0 0) ⊎ B)
down z (inl a) = inl a
down z (inr (inl b)) = absurd (b z)
down z (inr (inr c)) = inr (inr c)

module _ (m k : EndMachine) (v sig : ℕ) (s : IsSound m) (p : AtPoint m) (t : IsSound k) (same : k.cells ≡ m.cells) (w : Waking sig m k) where
  abbrev At : EndMachine → Type 0
  At c = Waking sig c k

  -- an end at no look, or an arm that undoes what it stored
  closed : (st : Stage) → m.stage ≡ st → sleeps_at st ≡ false → (c : ℕ) (a : EndMachine) → packets_looked_at a.stage ≡ false → a.asleep ≡ m.asleep → Waking c a k
  closed st e dozes c a shut same_asleep = shut_waking c a k (record { stage = shut; awake = same_asleep ∙ awake_at m s st e dozes })

  packets_at : (st : Stage) → m.stage ≡ st → packets_looked_at st ≡ true → (k.write ≡ m.read) ⊎ ((sig ≢ 0) ⊎ IsSendingFrom k m.read)
  packets_at st e h = w.packets (ap (λ (b : Bool). b || m.asleep) (ap packets_looked_at e ∙ h))

  room_at : (st : Stage) → m.stage ≡ st → room_looked_at st ≡ true → m.want ≢ 0 → (8 * free m.cells k.start m.write ≤ m.want) ⊎ ((sig ≢ 0) ⊎ IsGivingBack k m.cells m.write m.want)
  room_at st e h = w.room (ap (λ (b : Bool). b || m.asleep) (ap room_looked_at e ∙ h))

  none_there : v ≡ 8 * k.write → eqb (low v) (8 * m.read) ≡ true → k.write ≡ m.read
  none_there is h =
      let exact : low v ≡ v = ap low is ∙ (low_is k.cells k.write t.cells.1 t.write ∙ sym is) in
      let found : low v ≡ 8 * m.read = grind (arith, nat_tests) in
      omega (arith, is, exact, found)

  no_room : v ≡ 8 * k.start → finds_room m v ≡ false → 8 * free m.cells k.start m.write ≤ m.want
  no_room is h =
      let cell : cell_of v ≡ k.start = ap cell_of is ∙ cell_here k.cells k.start t.cells.1 t.start in
      let none : ltb m.want (8 * free m.cells (cell_of v) m.write) ≡ false = or_right (not (is_index m.cells v)) _ h in
      let small : 8 * free m.cells (cell_of v) m.write ≤ m.want = grind (arith, nat_tests) in
      subst (λ (c : ℕ). 8 * free m.cells c m.write ≤ m.want) cell small
    where
      or_right : (a b : Bool) → (a || b) ≡ false → b ≡ false
      or_right true b i = absurd (cc)
      or_right false b i = i

  slept : m.asleep ≡ true → sig ≡ 0 → Waking 0 (record m { stage = Idle; ended = NoSignal; done = 0 }) k
  slept a z = record {
    packets = λ h. down z (w.packets (or_yes (packets_looked_at m.stage) m.asleep a));
    room = λ h wants. down z (w.room (or_yes (room_looked_at m.stage) m.asleep a) wants);
    mark = λ h. down z (w.mark a);
  }

  own_at : (st : Stage) → m.stage ≡ st → KnownBy st sig k v → Waking (signal_after st sig) (fed_at st m v) k
  own_at Idle e l = w
  own_at Stopped e l = w
  own_at ArmWrite e l =
      let a = awake_at m s ArmWrite e refl in
      at_cond At (eqb (low v) (8 * m.read)) _ _
      (λ t0. at_cond At (eqb m.want 0) _ _
      (λ u. record { packets = λ h. inl (none_there l t0); room = λ h wants. absurd (wants (grind (arith, nat_tests))); mark = λ h. absurd (no_true a h) })
      (λ u. record { packets = λ h. inl (none_there l t0); room = λ h. absurd (no_true a h); mark = λ h. absurd (no_true a h) }))
      (λ t0. closed ArmWrite e refl sig _ refl refl)
  own_at ArmRead e l =
      at_cond At (finds_room m v) _ _
      (λ t0. closed ArmRead e refl sig _ refl refl)
      (λ t0. record { packets = λ h. packets_at ArmRead e refl; room = λ h wants. inl (no_room l t0); mark = λ h. absurd (no_true (awake_at m s ArmRead e refl) h) })
  own_at ArmMark e l =
      at_cond At (eqb v 0) _ _
      (λ t0. record { packets = λ h. packets_at ArmMark e refl; room = λ h. room_at ArmMark e refl; mark = λ h. inl (is_down (k.marked || is_marking_at k.stage) (sym l ∙ grind (arith, nat_tests))) })
      (λ t0. closed ArmMark e refl sig _ refl refl)
  own_at PollSignal e l = at_cond (λ (c : EndMachine). Waking 0 c k) (eqb v 0) _ _ (λ t0. slept (p.polls e) (sym l ∙ grind (arith, nat_tests))) (λ t0. shut_waking 0 _ k (record { stage = refl; awake = refl }))
  own_at _ e l = let a = ap packets_looked_at e in closed _ e refl sig _ (search rules) (search rules)

  pub own_waking : KnownBy m.stage sig k v → Waking (signal_after m.stage sig) (fed m v) k
  own_waking l = own_at m.stage refl l
