-- A lock at its start.
use Rattle.std.proofs.Common.{◌≡◌, ℕ, ◌^◌, ◌<◌, List, [], ◌∷◌, length, sym, ap, ◌∙◌, subst, Option, Some, Result, Ok, Err, IfOk}
use Rattle.atomic_table.specs.Table.{opening}
use Rattle.hist_lock.specs.declared.view.Terms.{Terms}
use Rattle.hist_lock.specs.declared.view.Kept.{Kept}
use Rattle.hist_lock.specs.declared.history.Entry.{Entry}
use Rattle.hist_lock.specs.Legal.{IsLegal, Leaves}
use Rattle.hist_lock.specs.Rule.{limit, Fits, Rule}
use Rattle.hist_lock.specs.Sitting.{opened}
use Rattle.hist_lock.proofs.Histories.{first_after}
use Rattle.hist_lock.proofs.Seats.{begins}

module _ {S Q A : Type 0} where
  pub opens : (after : S → Q → S) (reply_to : S → Q → A) (t u : Terms S Q A) (kept : Kept S Q A) (n : ℕ) (slots : List (Option (Kept S Q A))) → t ≡ u → n ≡ length u.past → slots ≡ Some kept ∷ []
      → 0 < length u.quotas → limit u < 2 ^ 32 → IsLegal after reply_to u.start u.past → Fits after u u.past kept → Rule after reply_to t (opening (n ∷ n ∷ []) slots (opened t))
  opens after reply_to t u kept n slots a b c some_seat few legal fits =
      subst (λ (x : Terms S Q A × (ℕ × List (Option (Kept S Q A)))). Rule after reply_to x.0 (opening (x.1.0 ∷ x.1.0 ∷ []) x.1.1 (opened x.0))) (λ i. (sym a i, (sym b i, sym c i))) (begins after reply_to u kept some_seat few legal fits)

  -- a state that a legal history leaves has the setup of its first state
  pub settled : (first : S → S) (after : S → Q → S) (reply_to : S → Q → A) → ((s : S) (q : Q) → first (after s q) ≡ first s) → (state : S) (es : List (Entry S Q A)) → Leaves first after reply_to es state → first (first state) ≡ first state
  settled first after reply_to keeps state es leaves = sym (ap first leaves.left_by ∙ first_after first after keeps (first state) es)

-- from a fact on the value to another
pub if_ok : {T X : Type 0} (r : Result T X) (P R : T → Type 0) → ((v : T) → P v → R v) → IfOk r P → IfOk r R
if_ok (Ok v) P R f h = f v h
if_ok (Err x) P R f h = tt
