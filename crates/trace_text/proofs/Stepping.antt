-- A recorder goes on by one step.
use Rattle.std.proofs.Common.{◌≡◌, ℕ, [], ◌∷◌, Option, Some, refl}
use Rattle.ring_machine.specs.declared.place.Op.{Op}
use Rattle.ring_core.specs.Told.{Memory, memory_after, answer_of, Tale}
use Rattle.ring_core.specs.declared.told.Told.{Told}
use Rattle.trace_text.specs.Steps.{step_text}
use Rattle.trace_text.specs.Recording.{Recorded, kept, StepTells, RecordsOn}

module _ {S : Type 0} (same : S → S → Type 0) (cells : S → ℕ) (tale : S → Tale) (told : S → Option Told) where
  pub goes_by_a_step : (r t : Recorded S) (op : Op) (v : ℕ) → same r.seat t.seat → cells t.seat ≡ cells r.seat → t.side ≡ r.side → t.size ≡ r.size → (t.full, t.text) ≡ kept r (step_text r.side op v)
      → ((m : Memory) → (tale r.seat).memory ≡ Some m → ((tale t.seat).memory ≡ Some (memory_after (cells r.seat) op m)) × (v ≡ answer_of (cells r.seat) op m))
      → ((u : Told) → told r.seat ≡ Some u → (w : Told) × (told t.seat ≡ Some w) × StepTells (record { op = op; answer = v }) u w) → RecordsOn same cells tale told r t
  goes_by_a_step r t op v h fits side size text runs tells = record {
    seat = h;
    fits = fits;
    side = side;
    size = size;
    made = record { op = op; answer = v } ∷ [];
    text = text;
    leads = λ m e. let z = runs m e in (_, z.0, (z.1, refl));
    tells = λ u e. let z = tells u e in (z.0, z.1, (z.0, z.2, refl));
  }
