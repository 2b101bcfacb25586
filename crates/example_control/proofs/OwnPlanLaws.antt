-- The plan of one disk is a plan.
use Rattle.std.proofs.Common.{◌≡◌, ℕ, ◌+◌, ◌<◌, ◌≤◌, ◌^◌, true, false, All, List, [], ◌∷◌, length, Some, None, refl, sym, subst, arith}
use Rattle.std.proofs.lemmas.List.Elements.{All-nil, All-cons}
use Rattle.contact.specs.declared.kind.Kind.{Kind}
use Rattle.contact.specs.declared.kind.Kind.TheVariants.{Disk}
use Rattle.control_model.specs.declared.opening.Opening.{Opening}
use Rattle.control_model.specs.Plan.{IsPlan, IsOpening, HasPort, Seated, Bare, Rising, OpensAgain, is_later, firsts}
use Rattle.example_control.specs.OwnPlan.{five_two, disk_opening, disk_plan}

all_one : {X : Type 0} (P : X → Type 0) (x : X) → P x → All P (x ∷ [])
all_one P x here = All-cons P x [] here (All-nil P)

opening_fits : (pages : ℕ) → 1 ≤ pages → pages ≤ 16 → IsOpening (disk_opening pages)
opening_fits pages some few = record {
  named = omega arith;
  few = omega arith;
  some_pages = some;
  few_pages = few;
  numbered = omega arith;
  handled = omega arith;
  alone = λ e. refl;
  port = tt;
}

disk_is : (pages : ℕ) → 1 ≤ pages → pages ≤ 16 → IsPlan (disk_plan pages)
disk_is pages some few =
    let o : Opening = disk_opening pages in
    record {
      guest = refl;
      host = refl;
      few = omega arith;
      ports = all_one HasPort Disk tt;
      some = omega arith;
      short = omega arith;
      fits = all_one (λ os. All (λ o. IsOpening o) os) (o ∷ []) (all_one (λ o. IsOpening o) o (opening_fits pages some few));
      small = all_one (λ os. length os ≤ 16) (o ∷ []) (omega arith);
      seated = all_one (λ os. Seated 0 os) (o ∷ []) ((λ e. refl), tt);
      bare = all_one (λ os. Bare os) (o ∷ []) ((λ e. refl), tt);
      offered = all_one (λ os. All (λ o. is_later o ≡ false → o.relid ≤ 1) os) (o ∷ []) (all_one (λ o. is_later o ≡ false → o.relid ≤ 1) o (λ e. omega arith));
      rising = all_one (λ os. Rising 1 (firsts os)) (o ∷ []) (omega arith, tt);
      later = refl;
      follow = (refl, refl, tt);
      ends = (all_one (OpensAgain []) o (All-nil (λ os. All (λ p. p.relid ≡ o.relid → o.rescinded ≡ false) os)), tt);
    }

-- and so is one that has these lists
pub plan_is : (pages : ℕ) → 1 ≤ pages → pages ≤ 16 → (kinds : List Kind) (phases : List (List Opening)) → kinds ≡ Disk ∷ [] → phases ≡ (disk_opening pages ∷ []) ∷ [] → IsPlan (record { guest = five_two; host = five_two; kinds = kinds; phases = phases })
plan_is pages some few kinds phases k p =
    subst (λ (l : List Kind). IsPlan (record { guest = five_two; host = five_two; kinds = l; phases = phases })) (sym k)
    (subst (λ (l : List (List Opening)). IsPlan (record { guest = five_two; host = five_two; kinds = Disk ∷ []; phases = l })) (sym p) (disk_is pages some few))
