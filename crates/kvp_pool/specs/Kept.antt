-- Pairs that stay where they are, and the order of their places.
use Rattle.std.specs.Prelude.{◌≡◌, ℕ, ◌≤◌, ◌<◌, List, [], length, map, unwrap_or, IsSome, Some, slice_get}
use Rattle.std.specs.List.{AllByRecursion}
use Rattle.std.specs.List.Sorted.{IsStrictlySortedBy}
use Rattle.std.specs.Map.{keys_of}
use Rattle.std.specs.declared.cmp.Ordering.TheVariants.{Less, Greater}
use Rattle.slab.specs.Slab.{Slab, get, slab_len}
use Rattle.kvp_pool.specs.Pools.{Pairs, key_order}

-- the pair at a place
abbrev pub pair_at : Slab (List ℕ × List ℕ) → ℕ → List ℕ × List ℕ
pair_at s place = unwrap_or (get s place) ([], [])

-- the pairs at these places
abbrev pub pairs_at : Slab (List ℕ × List ℕ) → List ℕ → Pairs
pairs_at s order = map (pair_at s) order

-- the slab has a pair at each of these places and at no other, by rising key, and both have room for 256
pub record IsKept (s : Slab (List ℕ × List ℕ)) (order : List ℕ) (capacity : ℕ) : Type 0 where
  pub filled : AllByRecursion (λ place. IsSome (get s place)) order
  pub rising : IsStrictlySortedBy key_order (keys_of (pairs_at s order))
  pub count : slab_len s ≡ length order
  pub few : length order ≤ 256
  pub places : 256 ≤ s.capacity
  pub room : 256 ≤ capacity

-- the pair of this key is there
pub record IsThere (key : List ℕ) (pool : Pairs) (i : ℕ) : Type 0 where
  pub value : List ℕ
  pub here : slice_get pool i ≡ Some (key, value)

-- no pair of this key is there, and it would stand here
pub record IsGap (key : List ℕ) (pool : Pairs) (i : ℕ) : Type 0 where
  pub within : i ≤ length pool
  pub below : (j : ℕ) (p : List ℕ × List ℕ) → j < i → slice_get pool j ≡ Some p → key_order key p.0 ≡ Greater
  pub above : (p : List ℕ × List ℕ) → slice_get pool i ≡ Some p → key_order key p.0 ≡ Less
