-- A call stops at a value that it loaded, and stays stopped.
use Rattle.std.proofs.Common.{◌≡◌, ℕ, Bool, true, false, List, [], ◌∷◌, ◌++◌, refl, sym, ap, ◌∙◌, subst}
use Rattle.ring_machine.specs.declared.machine.Stage.{Stage}
use Rattle.ring_machine.specs.declared.machine.Stage.TheVariants.{Idle, Stopped}
use Rattle.ring_machine.specs.declared.machine.EndMachine.{EndMachine}
use Rattle.ring_machine.specs.declared.last.Why.{Why}
use Rattle.ring_machine.specs.declared.state.EndState.{EndState}
use Rattle.ring_machine.specs.Steps.{fed, fed_at, is_busy_at}
use Rattle.ring_machine.specs.States.{afters}
use Rattle.ring_machine.specs.Endings.{why_of}
use Rattle.ring_machine.specs.Causes.{Breaks}
use Rattle.ring_machine.proofs.Refusing.{caused, refused}
use Rattle.ring_core.specs.Refused.{BreaksIn}

-- a machine with no call under way makes no step
still : (m : EndMachine) (v : ℕ) (st : Stage) → m.stage ≡ st → is_busy_at st ≡ false → fed m v ≡ m
still m v Idle e n = ap (λ (s : Stage). fed_at s m v) e
still m v Stopped e n = ap (λ (s : Stage). fed_at s m v) e
still m v _ e n = absurd (cc)

module _ (s : EndState) where
  pub caused_in : is_busy_at s.machine.stage ≡ true → (vs : List ℕ) → (afters s vs).machine.stage ≡ Stopped → BreaksIn s vs (why_of (afters s vs).machine)
  caused_in busy [] h = absurd (let n : is_busy_at s.machine.stage ≡ false = ap is_busy_at h in cc)
  caused_in busy (v ∷ vs) h = by_busy (caused_in busy vs) (is_busy_at (afters s vs).machine.stage) refl
    where
      by_busy : ((afters s vs).machine.stage ≡ Stopped → BreaksIn s vs (why_of (afters s vs).machine)) → (b : Bool) → is_busy_at (afters s vs).machine.stage ≡ b → BreaksIn s (v ∷ vs) (why_of (fed (afters s vs).machine v))
      by_busy earlier true b = record { later = []; value = v; before = vs; is = refl; breaks = caused (afters s vs).machine v (afters s vs).machine.stage refl b h }
      by_busy earlier false b =
          let same : fed (afters s vs).machine v ≡ (afters s vs).machine = still (afters s vs).machine v _ refl b in
          let it : BreaksIn s vs (why_of (afters s vs).machine) = earlier (sym (ap (λ (m : EndMachine). m.stage) same) ∙ h) in
          record {
            later = v ∷ it.later;
            value = it.value;
            before = it.before;
            is = ap (λ (l : List ℕ). v ∷ l) it.is;
            breaks = subst (λ (m : EndMachine). Breaks (why_of m) (afters s it.before).machine it.value) (sym same) it.breaks;
          }

  refused_by : (later : List ℕ) (v : ℕ) (before : List ℕ) (why : Why) → Breaks why (afters s before).machine v
      → ((afters s (later ++ v ∷ before)).machine.stage ≡ Stopped) × (why_of (afters s (later ++ v ∷ before)).machine ≡ why)
  refused_by [] v before why b = refused (afters s before).machine v why b
  refused_by (x ∷ later) v before why b =
      let it = refused_by later v before why b in
      let same : fed (afters s (later ++ v ∷ before)).machine x ≡ (afters s (later ++ v ∷ before)).machine = still (afters s (later ++ v ∷ before)).machine x Stopped it.0 refl in
      (ap (λ (m : EndMachine). m.stage) same ∙ it.0, ap why_of same ∙ it.1)

  pub refused_in : (vs : List ℕ) (why : Why) → BreaksIn s vs why → ((afters s vs).machine.stage ≡ Stopped) × (why_of (afters s vs).machine ≡ why)
  refused_in vs why b =
      subst (λ (l : List ℕ). ((afters s l).machine.stage ≡ Stopped) × (why_of (afters s l).machine ≡ why)) (sym b.is) (refused_by b.later b.value b.before why b.breaks)
