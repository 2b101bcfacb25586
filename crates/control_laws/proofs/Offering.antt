-- Lists of channels that were all offered.
use Rattle.std.proofs.Common.{◌≡◌, ◌∙◌, ℕ, zero, suc, ◌-◌, ◌<◌, true, List, [], ◌∷◌, ◌++◌, length, map, take, replicate, slice_get, Some, refl, sym, ap, arith}
use Rattle.std.proofs.lemmas.List.{length-replicate, length-map}
use Rattle.std.proofs.lemmas.Slice.Eq.{bytes_eq-Decides}
use Rattle.control_laws.proofs.Words.{Kind, class_id}
use Rattle.control_model.specs.Plan.{BusPlan, laters, all_openings}
use Rattle.control_model.specs.Channels.{same_kind}
use Rattle.control_model.specs.Stand.{offered_before, Stand}
use Rattle.control_laws.proofs.Marks.{at_relid}

pub kind_same : (kind : Kind) → same_kind kind kind ≡ true
kind_same kind = (bytes_eq-Decides (class_id kind) (class_id kind)).1 refl

pub one_more : {X : Type 0} (n : ℕ) (x : X) → replicate n x ++ x ∷ [] ≡ replicate (suc n) x
one_more zero x = refl
one_more (suc n) x = ap (λ xs. x ∷ xs) (one_more n x)

each_same : {X : Type 0} (n i : ℕ) (x : X) → i < n → slice_get (replicate n x) i ≡ Some x
each_same zero i x less = absurd (omega (arith, less))
each_same (suc n) zero x less = refl
each_same (suc n) (suc i) x less = each_same n i x (omega (arith, less))

each_mapped : {X Y : Type 0} (ys : List Y) (i : ℕ) (x : X) → i < length ys → slice_get (map (λ (y : Y). x) ys) i ≡ Some x
each_mapped [] i x less = absurd (omega (arith, less))
each_mapped (y ∷ ys) zero x less = refl
each_mapped (y ∷ ys) (suc i) x less = each_mapped ys i x (omega (arith, less))

-- before the first phase no channel is offered but those of the devices
pub first_count : (plan : BusPlan) → offered_before plan 0 ≡ length plan.kinds
first_count plan = let none : length (laters (all_openings (take 0 plan.phases))) ≡ 0 = refl in omega (arith, none)

-- as many channels as there are devices, all the same
pub all_alike : {X : Type 0} (plan : BusPlan) (n : ℕ) (x : X) → n ≡ length plan.kinds → Stand (replicate n x) (offered_before plan 0) (λ relid. x)
all_alike plan n x is = record {
  many = length-replicate n x ∙ is ∙ sym (first_count plan);
  each = λ relid one few. at_relid (replicate n x) relid one ∙ each_same n (relid - 1) x (let all = first_count plan in omega (arith, one, few, is, all));
}

pub all_mapped : {X : Type 0} (plan : BusPlan) (x : X) → Stand (map (λ (kind : Kind). x) plan.kinds) (offered_before plan 0) (λ relid. x)
all_mapped plan x = record {
  many = length-map plan.kinds (λ (kind : Kind). x) ∙ sym (first_count plan);
  each = λ relid one few. at_relid (map (λ (kind : Kind). x) plan.kinds) relid one ∙ each_mapped plan.kinds (relid - 1) x (let all = first_count plan in omega (arith, one, few, all));
}
