-- A machine stops exactly at a value that breaks a rule, and names that rule.
use Rattle.std.proofs.Common.{◌≡◌, ◌⊎◌, ℕ, ◌+◌, ◌*◌, ◌/◌, ◌%◌, ◌<◌, ◌≤◌, Bool, true, false, ◌&&◌, cond, leb, ltb, eqb, refl, sym, ap, ◌∙◌, subst, inl, inr, ⊎_elim, arith}
use Rattle.std.proofs.lemmas.Bool.Decides.{nat_tests}
use Rattle.ring_machine.specs.declared.machine.Stage.{Stage}
use Rattle.ring_machine.specs.declared.machine.Stage.TheVariants.{Idle, Stopped, SendRead, SendCell, SendWrite, SendMask, SendLook, SendRaise, TakeWrite, TakeFirst, TakeCell, CommitRead, CommitFeature, CommitPending, CommitWrite, CommitRaise, ArmPending, ArmMask, ArmWrite, ArmRead, ArmMark, ArmUndoMask, ArmUndoPending, PollSignal, PollMask, PollPending, MarkStore, MarkRaise, PeerMark}
use Rattle.ring_machine.specs.declared.machine.EndMachine.{EndMachine}
use Rattle.ring_machine.specs.Places.{low, is_index, cell_of, used, free, len8_of, offset8_of}
use Rattle.ring_machine.specs.declared.machine.Ending.{Ending}
use Rattle.ring_machine.specs.declared.machine.Ending.TheVariants.{BadPeer, BadIndex, BadLength, BadOffset}
use Rattle.ring_machine.specs.declared.last.Bad.TheVariants.{Index, Length, Offset}
use Rattle.ring_machine.specs.declared.last.Why.{Why}
use Rattle.ring_machine.specs.declared.last.Why.TheVariants.{BadPeer as WhyBadPeer, Malformed}
use Rattle.ring_machine.specs.Steps.{fed, fed_at, breaks, is_busy_at, makes_room, finds_room}
use Rattle.ring_machine.specs.Endings.{why_of}
use Rattle.ring_machine.specs.Causes.{Breaks}
use Rattle.ring_machine.proofs.Sound.{at_cond, and_left, and_right}

module _ (m : EndMachine) (v : ℕ) where
  abbrev Caused : EndMachine → Type 0
  Caused x = x.stage ≡ Stopped → Breaks (why_of x) m v

  short_or_long : (l u : ℕ) → (leb 2 l && ltb l u) ≡ false → (l < 2) ⊎ (8 * u < 8 * l + 8)
  short_or_long l u h = by_case (leb 2 l) refl
    where
      by_case : (b : Bool) → leb 2 l ≡ b → (l < 2) ⊎ (8 * u < 8 * l + 8)
      by_case true e = inr (let no : ltb l u ≡ false = sym (ap (λ (c : Bool). c && ltb l u) e) ∙ h in grind (arith, nat_tests))
      by_case false e = inl (grind (arith, nat_tests))

  before_or_past : (o l : ℕ) → (leb 2 o && leb o l) ≡ false → (o < 2) ⊎ (l < o)
  before_or_past o l h = by_case (leb 2 o) refl
    where
      by_case : (b : Bool) → leb 2 o ≡ b → (o < 2) ⊎ (l < o)
      by_case true e = inr (let no : leb o l ≡ false = sym (ap (λ (c : Bool). c && leb o l) e) ∙ h in grind (arith, nat_tests))
      by_case false e = inl (grind (arith, nat_tests))

  upper : (v / 65536 % 4294967296) / 65536 ≡ len8_of v
  upper = omega arith

  lower : v / 65536 % 4294967296 % 65536 ≡ offset8_of v
  lower = omega arith

  goes_on : (st : Stage) → m.stage ≡ st → (x : EndMachine) → x.stage ≡ m.stage → is_busy_at st ≡ true → Caused x
  goes_on st e x same b h = absurd (let no : is_busy_at Stopped ≡ true = sym (ap is_busy_at (sym (e) ∙ (sym same ∙ h))) ∙ b in cc)

  pub caused : (st : Stage) → m.stage ≡ st → is_busy_at st ≡ true → Caused (fed_at st m v)
  caused Idle e b = absurd (cc)
  caused Stopped e b = absurd (cc)
  caused SendRead e b = at_cond Caused (is_index m.cells v) _ _ (λ t. at_cond Caused (leb (free m.cells (cell_of v) m.write) (m.len + 1)) _ _ (λ u h. absurd (cc)) (λ u h. absurd (cc))) (λ t h. (e, t, refl))
  caused SendCell e b = at_cond Caused (ltb m.done m.len) _ _ (λ t. goes_on SendCell e _ refl refl) (λ t h. absurd (cc))
  caused SendMask e b = at_cond Caused (eqb (low v) 0) _ _ (λ t h. absurd (cc)) (λ t h. absurd (cc))
  caused SendLook e b = at_cond Caused (eqb (low v) (8 * m.old)) _ _ (λ t h. absurd (cc)) (λ t h. absurd (cc))
  caused TakeWrite e b = at_cond Caused (is_index m.cells v) _ _ (λ t. at_cond Caused (eqb (cell_of v) m.read) _ _ (λ u h. absurd (cc)) (λ u h. absurd (cc))) (λ t h. (e, t, refl))
  caused TakeFirst e b =
      at_cond Caused (leb 2 (len8_of v) && ltb (len8_of v) (used m.cells m.read m.seen)) _ _
      (λ t. at_cond Caused (leb 2 (offset8_of v) && leb (offset8_of v) (len8_of v)) _ _ (λ u h. absurd (cc)) (λ u h. (e, lower, upper, omega (arith, upper, (right_length t).0), omega (arith, upper, (right_length t).1), before_or_past_at u)))
      (λ t h. (e, upper, refl, short_or_long_at t))
    where
      right_length : (leb 2 (len8_of v) && ltb (len8_of v) (used m.cells m.read m.seen)) ≡ true → (2 ≤ len8_of v) × (len8_of v < used m.cells m.read m.seen)
      right_length t = (let x = and_left (leb 2 (len8_of v)) _ t in grind (arith, nat_tests), let x = and_right (leb 2 (len8_of v)) _ t in grind (arith, nat_tests))

      before_or_past_at : (leb 2 (offset8_of v) && leb (offset8_of v) (len8_of v)) ≡ false → (v / 65536 % 4294967296 % 65536 < 2) ⊎ (v / 65536 % 4294967296 / 65536 < v / 65536 % 4294967296 % 65536)
      before_or_past_at u = subst (λ (k : ℕ × ℕ). (k.0 < 2) ⊎ (k.1 < k.0)) (λ i. (sym lower i, sym upper i)) (before_or_past (offset8_of v) (len8_of v) u)

      short_or_long_at : (leb 2 (len8_of v) && ltb (len8_of v) (used m.cells m.read m.seen)) ≡ false → (v / 65536 % 4294967296 / 65536 < 2) ⊎ (8 * used m.cells m.read m.seen < 8 * (v / 65536 % 4294967296 / 65536) + 8)
      short_or_long_at t = subst (λ (k : ℕ). (k < 2) ⊎ (8 * used m.cells m.read m.seen < 8 * k + 8)) (sym upper) (short_or_long (len8_of v) (used m.cells m.read m.seen) t)
  caused TakeCell e b = at_cond Caused (ltb (m.done + 1) m.len) _ _ (λ t. goes_on TakeCell e _ refl refl) (λ t h. absurd (cc))
  caused CommitFeature e b = at_cond Caused (eqb (low v % 2) 1) _ _ (λ t h. absurd (cc)) (λ t h. absurd (cc))
  caused CommitPending e b = at_cond Caused (eqb (low v) 0) _ _ (λ t h. absurd (cc)) (λ t h. absurd (cc))
  caused CommitWrite e b = at_cond Caused (makes_room m v) _ _ (λ t h. absurd (cc)) (λ t h. absurd (cc))
  caused ArmWrite e b = at_cond Caused (eqb (low v) (8 * m.read)) _ _ (λ t. at_cond Caused (eqb m.want 0) _ _ (λ u h. absurd (cc)) (λ u h. absurd (cc))) (λ t h. absurd (cc))
  caused ArmRead e b = at_cond Caused (finds_room m v) _ _ (λ t h. absurd (cc)) (λ t h. absurd (cc))
  caused ArmMark e b = at_cond Caused (eqb v 0) _ _ (λ t h. absurd (cc)) (λ t h. absurd (cc))
  caused ArmUndoMask e b = at_cond Caused (eqb m.want 0) _ _ (λ t h. absurd (cc)) (λ t h. absurd (cc))
  caused PollSignal e b = at_cond Caused (eqb v 0) _ _ (λ t h. absurd (cc)) (λ t h. absurd (cc))
  caused PollMask e b = at_cond Caused (eqb m.want 0) _ _ (λ t h. absurd (cc)) (λ t h. absurd (cc))
  caused PeerMark e b = at_cond Caused (eqb v 0) _ _ (λ t h. absurd (cc)) (λ t h. absurd (cc))
  caused _ e b = λ h. absurd (cc)

  cond_no : {A : Type 0} (b : Bool) (x y : A) → b ≡ false → cond b x y ≡ y
  cond_no b x y h = ap (λ c. cond c x y) h

  cond_yes : {A : Type 0} (b : Bool) (x y : A) → b ≡ true → cond b x y ≡ x
  cond_yes b x y h = ap (λ c. cond c x y) h

  neither : (b c : Bool) → (b ≡ false) ⊎ (c ≡ false) → (b && c) ≡ false
  neither false c h = refl
  neither true c h = ⊎_elim (λ n. absurd (cc)) (λ n. n) h

  both : (b c : Bool) → b ≡ true → c ≡ true → (b && c) ≡ true
  both b c x y = cc

  wrong_length : (l u : ℕ) → (l < 2) ⊎ (8 * u < 8 * l + 8) → (leb 2 l && ltb l u) ≡ false
  wrong_length l u h = neither (leb 2 l) (ltb l u) (⊎_elim (λ (x : l < 2). inl (let n : leb 2 l ≡ false = grind (arith, nat_tests) in n)) (λ (x : 8 * u < 8 * l + 8). inr (let n : ltb l u ≡ false = grind (arith, nat_tests) in n)) h)

  wrong_offset : (o l : ℕ) → (o < 2) ⊎ (l < o) → (leb 2 o && leb o l) ≡ false
  wrong_offset o l h = neither (leb 2 o) (leb o l) (⊎_elim (λ (x : o < 2). inl (let n : leb 2 o ≡ false = grind (arith, nat_tests) in n)) (λ (x : l < o). inr (let n : leb o l ≡ false = grind (arith, nat_tests) in n)) h)

  stops : (why : Why) (how : Ending) (u : ℕ) → fed m v ≡ breaks m how u → why_of (breaks m how u) ≡ why → ((fed m v).stage ≡ Stopped) × (why_of (fed m v) ≡ why)
  stops why how u e w = (ap (λ (x : EndMachine). x.stage) e, ap why_of e ∙ w)

  -- at such a value it stops, and that rule is named
  pub refused : (why : Why) → Breaks why m v → ((fed m v).stage ≡ Stopped) × (why_of (fed m v) ≡ why)
  refused (WhyBadPeer i) b = stops _ BadPeer (low v) (ap (λ (st : Stage). fed_at st m v) b.0 ∙ cond_no _ _ _ b.1) (ap WhyBadPeer (sym b.2))
  refused (Malformed (Index i)) b = stops _ BadIndex (low v) (ap (λ (st : Stage). fed_at st m v) b.0 ∙ cond_no _ _ _ b.1) (ap (λ (k : ℕ). Malformed (Index k)) (sym b.2))
  refused (Malformed (Length l a)) b =
      let wrong = wrong_length (len8_of v) (used m.cells m.read m.seen) (subst (λ (k : ℕ × ℕ). (k.0 < 2) ⊎ (k.1 < 8 * k.0 + 8)) (λ j. (b.1 j, b.2 j)) b.3) in
      stops _ BadLength (v / 65536 % 4294967296) (ap (λ (st : Stage). fed_at st m v) b.0 ∙ cond_no _ _ _ wrong) (λ j. Malformed (Length ((upper ∙ sym b.1) j) (sym b.2 j)))
  refused (Malformed (Offset o l)) b =
      let long : leb 2 (len8_of v) ≡ true = (let x : 2 ≤ len8_of v = omega (arith, b.2, b.3) in grind (arith, nat_tests)) in
      let short : ltb (len8_of v) (used m.cells m.read m.seen) ≡ true = (let x : len8_of v < used m.cells m.read m.seen = omega (arith, b.2, b.4) in grind (arith, nat_tests)) in
      let wrong = wrong_offset (offset8_of v) (len8_of v) (subst (λ (k : ℕ × ℕ). (k.0 < 2) ⊎ (k.1 < k.0)) (λ j. (b.1 j, b.2 j)) b.5) in
      stops _ BadOffset (v / 65536 % 4294967296) (ap (λ (st : Stage). fed_at st m v) b.0 ∙ (cond_yes _ _ _ (both _ _ long short) ∙ cond_no _ _ _ wrong)) (λ j. Malformed (Offset ((lower ∙ sym b.1) j) ((upper ∙ sym b.2) j)))
