-- The parts of the control path, around the phases of a script.
use Rattle.std.proofs.Common.{◌≡◌, ◌∙◌, ◌+◌, ◌<◌, ◌≤◌, ℕ, Bool, true, false, List, length, nat_lt, Some, if◌then◌else◌, IsTrue, ◌↔◌, inl, inr, refl, sym, ap, subst, arith}
use Rattle.std.proofs.lemmas.Bool.Decides.{nat_tests}
use Rattle.std.proofs.lemmas.Bool.{cases_eq}
use Rattle.contact.specs.declared.part.Part.TheVariants.{Contact, PhaseStart, PhaseEnd, Unload}
use Rattle.script_lines.specs.declared.line.Line.{Line}
use Rattle.script_lines.specs.Parts.{parts}
use Rattle.bus_run.specs.declared.runner.Runner.{Runner}
use Rattle.bus_run.specs.Parts.{AreOpen}
use Rattle.bus_run.specs.Whole.{RunsSoFar}
use Rattle.control_model.specs.Plan.{IsPlan, part_after}
use Rattle.control_model.specs.Openings.{plan_of}
use Rattle.control_model.proofs.ScriptLaws.{phases_are}
use Rattle.control_model.specs.Guest.{new_guest}
use Rattle.control_path.specs.declared.path.ControlPath.{ControlPath}
use Rattle.control_path.specs.Path.{Rests, RanPart, IsSamePath}
use Rattle.vmbus_main.specs.Between.{part_at, IsBetween}

some_of : {A : Type 0} (b : Bool) (x y : A) → (if b then Some x else Some y) ≡ Some (if b then x else y)
some_of true x y = refl
some_of false x y = refl

lt_true : (a b : ℕ) → a < b → nat_lt a b ≡ true
lt_true a b below = grind (arith, nat_tests)

lt_false : (a b : ℕ) → b ≤ a → nat_lt a b ≡ false
lt_false a b above = grind (arith, nat_tests)

-- a path stays one path
pub same_on : (p q t : ControlPath) → IsSamePath p q → IsSamePath q t → IsSamePath p t
same_on p q t x y = record { to_host = y.to_host ∙ x.to_host; to_guest = y.to_guest ∙ x.to_guest }

-- before the first phase
pub first_between : (lines : List Line) (r : Runner) (old new : ControlPath) → RunsSoFar lines r → r.phase ≡ 0 → Rests old → old.guest ≡ new_guest (plan_of lines) → r.path.value ≡ old → RanPart old new Contact → IsBetween lines r new
first_between lines r old new so_far none rests fresh is ran =
    let plan : old.guest.plan ≡ plan_of lines = ap (λ g. g.plan) fresh in
    let planned : IsPlan (plan_of lines) = subst IsPlan plan rests.guest.planned in
    let some : nat_lt 0 (length (plan_of lines).phases) ≡ true = lt_true 0 (length (plan_of lines).phases) (omega (arith, planned.some)) in
    let at : part_at (plan_of lines) r.phase ≡ PhaseStart 0 = rw (none, some) refl in
    record { ran = so_far; rests = ran.rests; same = subst (λ (p : ControlPath). IsSamePath p new) (sym is) ran.same; plan = ran.plan ∙ plan; next = rw (ran.guest_part, at) refl }

-- the next phase starts
pub starts : (lines : List Line) (r : Runner) (p : ControlPath) → IsBetween lines r p → r.phase < length (parts lines) → part_after p.guest.plan p.guest.part ≡ Some (PhaseStart r.phase)
starts lines r p between more =
    let some : nat_lt r.phase (length (plan_of lines).phases) ≡ true = lt_true r.phase (length (plan_of lines).phases) (omega (arith, more, phases_are lines)) in
    let at : part_at (plan_of lines) r.phase ≡ PhaseStart r.phase = rw some refl in
    rw between.plan (between.next ∙ ap Some at)

-- behind its start its channels are open
pub opens : (lines : List Line) (r : Runner) (p q : ControlPath) (phase : ℕ) → IsBetween lines r p → phase ≡ r.phase → RanPart p q (PhaseStart phase) → AreOpen lines r.phase q
opens lines r p q phase between is start =
    let ran : RanPart p q (PhaseStart r.phase) = subst (λ (k : ℕ). RanPart p q (PhaseStart k)) is start in
    record {
      rests = ran.rests;
      guest_plan = ran.plan ∙ between.plan;
      host_plan = ran.rests.plan ∙ (ran.plan ∙ between.plan);
      guest_part = ran.guest_part;
      host_part = ran.host_part;
      guest_done = ran.guest_done;
      host_done = ran.host_done;
    }

-- over the same queues
pub still : (lines : List Line) (r : Runner) (p q : ControlPath) (phase : ℕ) → IsBetween lines r p → RanPart p q (PhaseStart phase) → IsSamePath r.path.value q
still lines r p q phase between start = same_on r.path.value p q between.same start.same

-- it ends
pub ends : (old new : ControlPath) (phase : ℕ) → RanPart old new (PhaseStart phase) → part_after new.guest.plan new.guest.part ≡ Some (PhaseEnd phase)
ends old new phase ran = rw ran.guest_part refl

-- and then one phase more has run
pub next_between : (lines : List Line) (r s : Runner) (p q t : ControlPath) → IsBetween lines r p → RanPart p q (PhaseStart r.phase) → RanPart q t (PhaseEnd r.phase) → RunsSoFar lines s → s.phase ≡ r.phase + 1 → s.path.value ≡ r.path.value → IsBetween lines s t
next_between lines r s p q t between start end so_far more one =
    let plan : t.guest.plan ≡ plan_of lines = end.plan ∙ start.plan ∙ between.plan in
    let at : part_after (plan_of lines) (Some (PhaseEnd r.phase)) ≡ Some (part_at (plan_of lines) (r.phase + 1)) = some_of (nat_lt (r.phase + 1) (length (plan_of lines).phases)) (PhaseStart (r.phase + 1)) Unload in
    record {
      ran = so_far;
      rests = end.rests;
      same = subst (λ (x : ControlPath). IsSamePath x t) (sym one) (same_on r.path.value q t (same_on r.path.value p q between.same start.same) end.same);
      plan = plan;
      next = rw (end.guest_part, more) at;
    }

pub then_between : (lines : List Line) (r s : Runner) (p q t : ControlPath) (phase : ℕ) → IsBetween lines r p → phase ≡ r.phase → RanPart p q (PhaseStart phase) → RunsSoFar lines s → s.phase ≡ r.phase + 1 → s.path.value ≡ r.path.value → RanPart q t (PhaseEnd phase) → IsBetween lines s t
then_between lines r s p q t phase between is start so_far more one end =
    next_between lines r s p q t between (subst (λ (k : ℕ). RanPart p q (PhaseStart k)) is start) (subst (λ (k : ℕ). RanPart q t (PhaseEnd k)) is end) so_far more one

-- behind the last phase it is the farewell
pub farewell : (lines : List Line) (r : Runner) (p : ControlPath) → IsBetween lines r p → r.phase ≡ length (parts lines) → part_after p.guest.plan p.guest.part ≡ Some Unload
farewell lines r p between all =
    let none : nat_lt r.phase (length (plan_of lines).phases) ≡ false = lt_false r.phase (length (plan_of lines).phases) (omega (arith, all, phases_are lines)) in
    let at : part_at (plan_of lines) r.phase ≡ Unload = rw none refl in
    rw between.plan (between.next ∙ ap Some at)

-- a runner that has no next phase ran them all
pub over : (lines : List Line) (r : Runner) (b : Bool) → RunsSoFar lines r → (IsTrue b ↔ (r.phase < length (parts lines))) → b ≡ false → r.phase ≡ length (parts lines)
over lines r b so_far same not = by_place r.phase (length (parts lines)) so_far.counted (λ less. let it : b ≡ true = same.1 less in let none : true ≡ false = sym it ∙ not in cc (none))
  where
    by_place : (m n : ℕ) → m ≤ n → (m < n → ⊥) → m ≡ n
    by_place m n le more = elim (cases_eq m n) [
      | inl e ↦ e
      | inr ne ↦ absurd (more (omega (arith, le, ne)))
    ]
