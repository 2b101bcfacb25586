-- Which id has which key of the slab.
use Rattle.std.specs.Prelude.{◌≡◌, ℕ, ◌≤◌, List, length, map, Option, Some, None, IsSome, is_some, count_by, slice_get}
use Rattle.slab.specs.Slab.{Slab, get, slab_len}

module _ {R : Type 0} where
  -- what the slab has for a place
  abbrev pub request_at : Slab R → Option ℕ → Option R
  request_at s None = None
  request_at s (Some key) = get s key

  -- what it has for each place of a row
  abbrev pub requests_at : Slab R → List (Option ℕ) → List (Option R)
  requests_at s keys = map (request_at s) keys

  -- the slab holds the requests of these keys, and no other
  pub record IsKept (s : Slab R) (keys : List (Option ℕ)) : Type 0 where
    -- each key has a request
    pub filled : (i k : ℕ) → slice_get keys i ≡ Some (Some k) → IsSome (get s k)
    -- no two ids have one key
    pub apart : (i j k : ℕ) → slice_get keys i ≡ Some (Some k) → slice_get keys j ≡ Some (Some k) → i ≡ j
    -- and the slab has no other
    pub count : slab_len s ≡ count_by is_some keys
    pub room : length keys ≤ s.capacity
    pub few : length keys ≤ 64
