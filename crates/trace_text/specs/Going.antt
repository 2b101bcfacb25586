-- A recorder goes on: not at all, and by some steps and then by more. A trait's laws are proved by lemmas that stand beside the definitions.
use Rattle.std.proofs.Common.{◌≡◌, ℕ, Bool, List, [], ◌∷◌, ◌++◌, Option, refl, sym, ap, ◌∙◌, subst}
use Rattle.io_edge.specs.declared.side.Side.{Side}
use Rattle.ring_core.specs.Told.{Memory, Tale}
use Rattle.ring_core.specs.declared.told.Told.{Told}
use Rattle.trace_text.specs.Recording.{Recorded, Made, kept_of, StepsLead, StepsTell, RecordsOn}

kept_more : (size : ℕ) (x : Side) (a b : List Made) (so : Bool × List ℕ) → kept_of size x (a ++ b) so ≡ kept_of size x b (kept_of size x a so)
kept_more size x [] b so = refl
kept_more size x (s ∷ a) b so = kept_more size x a b _

lead_more : (d : ℕ) (a b : List Made) (k m n : Memory) → StepsLead d a k m → StepsLead d b m n → StepsLead d (a ++ b) k n
lead_more d [] b k m n p q = subst (λ (y : Memory). StepsLead d b y n) p q
lead_more d (s ∷ a) b k m n p q = (p.0, lead_more d a b _ m n p.1 q)

tell_more : (a b : List Made) (u v w : Told) → StepsTell a u v → StepsTell b v w → StepsTell (a ++ b) u w
tell_more [] b u v w p q = subst (λ (y : Told). StepsTell b y w) p q
tell_more (s ∷ a) b u v w p q = (p.0, p.1, tell_more a b p.0 v w p.2 q)

module _ {S : Type 0} (same : S → S → Type 0) (cells : S → ℕ) (tale : S → Tale) (told : S → Option Told) where
  pub goes_nowhere : (r : Recorded S) → same r.seat r.seat → RecordsOn same cells tale told r r
  goes_nowhere r h = record { seat = h; fits = refl; side = refl; size = refl; made = []; text = refl; leads = λ m e. (m, e, refl); tells = λ u e. (u, e, refl) }

  pub goes_further : (r t u : Recorded S) → same r.seat u.seat → RecordsOn same cells tale told r t → RecordsOn same cells tale told t u → RecordsOn same cells tale told r u
  goes_further r t u h p q = record {
    seat = h;
    fits = q.fits ∙ p.fits;
    side = q.side ∙ p.side;
    size = q.size ∙ p.size;
    made = p.made ++ q.made;
    text = q.text ∙ ap (λ (n : ℕ). kept_of n t.side q.made (t.full, t.text)) p.size ∙ ap (λ (x : Side). kept_of r.size x q.made (t.full, t.text)) p.side
        ∙ ap (kept_of r.size r.side q.made) p.text ∙ sym (kept_more r.size r.side p.made q.made (r.full, r.text));
    leads = λ m e. let a = p.leads m e in let b = q.leads a.0 a.1 in
        (b.0, b.1, lead_more (cells r.seat) p.made q.made m a.0 b.0 a.2 (subst (λ (d : ℕ). StepsLead d q.made a.0 b.0) p.fits b.2));
    tells = λ v e. let a = p.tells v e in let b = q.tells a.0 a.1 in (b.0, b.1, tell_more p.made q.made v a.0 b.0 a.2 b.2);
  }
