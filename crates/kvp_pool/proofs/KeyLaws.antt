-- Keys are tied only with themselves.
use Rattle.std.proofs.Common.{◌≡◌, ◌≢◌, false, List, ℕ, refl}
use Rattle.std.specs.Ordering.{is_eq}
use Rattle.std.specs.declared.cmp.Ordering.TheVariants.{Less, Equal, Greater}
use Rattle.std.proofs.lemmas.Map.Lookups.{exact_bytes}
use Rattle.kvp_pool.specs.Pools.{key_order}

pub not_tied : (other key : List ℕ) → other ≢ key → is_eq (key_order other key) ≡ false
not_tied other key n =
    elim (key_order other key) as (λ r. key_order other key ≡ r → is_eq r ≡ false) [
      | Less ↦ λ h. refl
      | Equal ↦ λ h. absurd (n (exact_bytes other key h))
      | Greater ↦ λ h. refl
    ] refl
