-- Choices, and the states that an end shows.
use Rattle.std.proofs.Common.{◌≡◌, ◌⊎◌, inl, inr, ℕ, ◌<◌, ◌≤◌, ◌^◌, Bool, true, false, ◌&&◌, cond, leb, eqb, refl, sym, ap, ◌∙◌, arith}
use Rattle.std.proofs.lemmas.Bool.Decides.{nat_tests}
use Rattle.ring_machine.specs.declared.machine.Stage.{Stage}
use Rattle.ring_machine.specs.declared.machine.Stage.TheVariants.{Idle, SendCell, TakeFirst, CommitRead, ArmPending, ArmMask}
use Rattle.ring_machine.specs.declared.machine.EndMachine.{EndMachine}
use Rattle.ring_machine.specs.Places.{low, len8_of, offset8_of}
use Rattle.ring_call_plan.specs.declared.end.PlanEnd.{PlanEnd}
use Rattle.ring_call_plan.specs.Numbers.{has_offset}
use Rattle.ring_call_plan.specs.Shown.{state_at, Shows}

pub when_true : {A : Type 0} (P : A → Type 0) (b : Bool) (x y : A) → b ≡ true → P x → P (cond b x y)
when_true P true x y h t = t
when_true P false x y h t = absurd (cc)

pub when_false : {A : Type 0} (P : A → Type 0) (b : Bool) (x y : A) → b ≡ false → P y → P (cond b x y)
when_false P true x y h f = absurd (cc)
when_false P false x y h f = f

pub true_is : {A : Type 0} (b : Bool) (x y : A) → b ≡ true → cond b x y ≡ x
true_is true x y h = refl
true_is false x y h = absurd (cc)

pub false_is : {A : Type 0} (b : Bool) (x y : A) → b ≡ false → cond b x y ≡ y
false_is true x y h = absurd (cc)
false_is false x y h = refl

-- two numbers that a test tells apart
pub apart : (a b : ℕ) → eqb a b ≡ false → a ≡ b → ⊥
apart a b f h = let t : eqb a b ≡ true = grind (arith, nat_tests, h) in let no : true ≡ false = sym t ∙ f in cc

-- the same choice on both sides
pub at_twin : {A B : Type 0} (P : A → B → Type 0) (b c : Bool) (x y : A) (u w : B) → b ≡ c → (b ≡ true → P x u) → (b ≡ false → P y w) → P (cond b x y) (cond c u w)
at_twin P true true x y u w e t f = t refl
at_twin P true false x y u w e t f = absurd (cc)
at_twin P false true x y u w e t f = absurd (cc)
at_twin P false false x y u w e t f = f refl

pub low_is : (v : ℕ) → v < 2 ^ 32 → low v ≡ v
low_is v h = omega arith

abbrev asleep_or : Bool → Bool → ℕ
asleep_or a b = cond a 7 (cond b 6 0)

-- the stage of a machine by the state that it shows
pub idle_at : (st : Stage) (m : EndMachine) → state_at st m ≡ 0 → st ≡ Idle
idle_at Idle m h = refl
idle_at ArmPending m h = absurd (by_want (eqb m.want 0) h)
  where
    by_want : (b : Bool) → cond {A = ℕ} b 8 5 ≡ 0 → ⊥
    by_want true e = cc
    by_want false e = cc
idle_at ArmMask m h = absurd (by_want (eqb m.want 0) h)
  where
    by_want : (b : Bool) → cond {A = ℕ} b 5 8 ≡ 0 → ⊥
    by_want true e = cc
    by_want false e = cc
idle_at _ m h = absurd (cc)

pub sending_at : (st : Stage) (m : EndMachine) → state_at st m ≡ 2 → st ≡ SendCell
sending_at Idle m h = absurd (by_flags m.marked m.asleep h)
  where
    by_flags : (a b : Bool) → asleep_or a b ≡ 2 → ⊥
    by_flags true b e = cc
    by_flags false true e = cc
    by_flags false false e = cc
sending_at SendCell m h = refl
sending_at ArmPending m h = absurd (by_want (eqb m.want 0) h)
  where
    by_want : (b : Bool) → cond {A = ℕ} b 8 5 ≡ 2 → ⊥
    by_want true e = cc
    by_want false e = cc
sending_at ArmMask m h = absurd (by_want (eqb m.want 0) h)
  where
    by_want : (b : Bool) → cond {A = ℕ} b 5 8 ≡ 2 → ⊥
    by_want true e = cc
    by_want false e = cc
sending_at _ m h = absurd (cc)

pub taking_at : (st : Stage) (m : EndMachine) → state_at st m ≡ 3 → st ≡ TakeFirst
taking_at Idle m h = absurd (by_flags m.marked m.asleep h)
  where
    by_flags : (a b : Bool) → asleep_or a b ≡ 3 → ⊥
    by_flags true b e = cc
    by_flags false true e = cc
    by_flags false false e = cc
taking_at TakeFirst m h = refl
taking_at ArmPending m h = absurd (by_want (eqb m.want 0) h)
  where
    by_want : (b : Bool) → cond {A = ℕ} b 8 5 ≡ 3 → ⊥
    by_want true e = cc
    by_want false e = cc
taking_at ArmMask m h = absurd (by_want (eqb m.want 0) h)
  where
    by_want : (b : Bool) → cond {A = ℕ} b 5 8 ≡ 3 → ⊥
    by_want true e = cc
    by_want false e = cc
taking_at _ m h = absurd (cc)

pub giving_at : (st : Stage) (m : EndMachine) → state_at st m ≡ 4 → st ≡ CommitRead
giving_at Idle m h = absurd (by_flags m.marked m.asleep h)
  where
    by_flags : (a b : Bool) → asleep_or a b ≡ 4 → ⊥
    by_flags true b e = cc
    by_flags false true e = cc
    by_flags false false e = cc
giving_at CommitRead m h = refl
giving_at ArmPending m h = absurd (by_want (eqb m.want 0) h)
  where
    by_want : (b : Bool) → cond {A = ℕ} b 8 5 ≡ 4 → ⊥
    by_want true e = cc
    by_want false e = cc
giving_at ArmMask m h = absurd (by_want (eqb m.want 0) h)
  where
    by_want : (b : Bool) → cond {A = ℕ} b 5 8 ≡ 4 → ⊥
    by_want true e = cc
    by_want false e = cc
giving_at _ m h = absurd (cc)

pub arming_at : (st : Stage) (m : EndMachine) → state_at st m ≡ 5 → ((st ≡ ArmMask) × (eqb m.want 0 ≡ true)) ⊎ ((st ≡ ArmPending) × (eqb m.want 0 ≡ false))
arming_at Idle m h = absurd (by_flags m.marked m.asleep h)
  where
    by_flags : (a b : Bool) → asleep_or a b ≡ 5 → ⊥
    by_flags true b e = cc
    by_flags false true e = cc
    by_flags false false e = cc
arming_at ArmPending m h = by_test (eqb m.want 0) refl h
  where
    by_test : (b : Bool) → eqb m.want 0 ≡ b → cond {A = ℕ} b 8 5 ≡ 5 → ((ArmPending ≡ ArmMask) × (eqb m.want 0 ≡ true)) ⊎ ((ArmPending ≡ ArmPending) × (eqb m.want 0 ≡ false))
    by_test true i e = absurd (cc)
    by_test false i e = inr (refl, i)
arming_at ArmMask m h = by_test (eqb m.want 0) refl h
  where
    by_test : (b : Bool) → eqb m.want 0 ≡ b → cond {A = ℕ} b 5 8 ≡ 5 → ((ArmMask ≡ ArmMask) × (eqb m.want 0 ≡ true)) ⊎ ((ArmMask ≡ ArmPending) × (eqb m.want 0 ≡ false))
    by_test true i e = inl (refl, i)
    by_test false i e = absurd (cc)
arming_at _ m h = absurd (cc)

pub asleep_at : (st : Stage) (m : EndMachine) → state_at st m ≡ 6 → st ≡ Idle
asleep_at Idle m h = refl
asleep_at ArmPending m h = absurd (by_want (eqb m.want 0) h)
  where
    by_want : (b : Bool) → cond {A = ℕ} b 8 5 ≡ 6 → ⊥
    by_want true e = cc
    by_want false e = cc
asleep_at ArmMask m h = absurd (by_want (eqb m.want 0) h)
  where
    by_want : (b : Bool) → cond {A = ℕ} b 5 8 ≡ 6 → ⊥
    by_want true e = cc
    by_want false e = cc
asleep_at _ m h = absurd (cc)

pub flags_none : (a b : Bool) → asleep_or a b ≡ 0 → (a ≡ false) × (b ≡ false)
flags_none true b e = absurd (cc)
flags_none false true e = absurd (cc)
flags_none false false e = (refl, refl)

-- an idle machine that is neither asleep nor marked
pub rests : (e : PlanEnd) (m : EndMachine) → Shows e m → e.state ≡ 0 → (m.stage ≡ Idle) × (m.asleep ≡ false) × (m.marked ≡ false)
rests e m s h =
    let i : m.stage ≡ Idle = idle_at m.stage m (s.state ∙ h) in
    let f = flags_none m.marked m.asleep (sym (ap (λ (st : Stage). state_at st m) i) ∙ (s.state ∙ h)) in
    (i, f.1, f.0)

-- what a state number says where its test holds
pub state_is : (e : PlanEnd) (k : ℕ) (b : Bool) → (eqb e.state k && b) ≡ true → (e.state ≡ k) × (b ≡ true)
state_is e k b h = by_test (eqb e.state k) refl h
  where
    by_test : (t : Bool) → eqb e.state k ≡ t → (t && b) ≡ true → (e.state ≡ k) × (b ≡ true)
    by_test true i j = ((grind (arith, nat_tests, i)), j)
    by_test false i j = absurd (cc)

-- an end that is neither asleep nor marked
pub awake : (e : PlanEnd) (m : EndMachine) (k : ℕ) → Shows e m → e.state ≡ k → eqb k 6 ≡ false → m.asleep ≡ false
awake e m k s h i = s.asleep ∙ ap (λ (x : ℕ). eqb x 6) h ∙ i

pub unmarked : (e : PlanEnd) (m : EndMachine) (k : ℕ) → Shows e m → e.state ≡ k → eqb k 7 ≡ false → m.marked ≡ false
unmarked e m k s h i = s.marked ∙ ap (λ (x : ℕ). eqb x 7) h ∙ i

-- an idle machine with these flags shows the state 0
pub idle_shows : (m : EndMachine) → m.asleep ≡ false → m.marked ≡ false → state_at Idle m ≡ 0
idle_shows m a k = ap (λ (x : Bool). asleep_or x m.asleep) k ∙ ap (λ (x : Bool). asleep_or false x) a

-- where the payload of a packet begins
pub offset_parts : (h : ℕ) → has_offset h ≡ true → (2 ≤ offset8_of h) × (offset8_of h ≤ len8_of h)
offset_parts h t = by_both (leb 2 (offset8_of h)) (leb (offset8_of h) (len8_of h)) refl refl t
  where
    by_both : (b c : Bool) → leb 2 (offset8_of h) ≡ b → leb (offset8_of h) (len8_of h) ≡ c → (b && c) ≡ true → (2 ≤ offset8_of h) × (offset8_of h ≤ len8_of h)
    by_both true true p q t = ((grind (arith, nat_tests, p)), (grind (arith, nat_tests, q)))
    by_both true false p q t = absurd (cc)
    by_both false c p q t = absurd (cc)
