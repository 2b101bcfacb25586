-- A pool: a finite map from keys to values, as its pairs in order of their keys.
use Rattle.std.specs.Prelude.{ℕ, ◌≤◌, ◌<◌, ◌^◌, Bool, ◌||◌, nat_lt, List, length, Option, is_some}
use Rattle.std.specs.declared.cmp.Ordering.{Ordering}
use Rattle.std.specs.Ordering.{nat_cmp}
use Rattle.std.specs.Cmp.Lexicographic.{slice_cmp}
use Rattle.std.specs.List.{AllByRecursion}
use Rattle.std.specs.List.Sorted.{IsStrictlySortedBy}
use Rattle.std.specs.Map.{keys_of, lookup, remove_entry}
use Rattle.std.specs.BTreeMap.{insert_entry, is_at}

-- a text of so many UTF-16 units at least and at most, none of which is 0
pub record IsText (min max : ℕ) (units : List ℕ) : Type 0 where
  pub least : min ≤ length units
  pub most : length units ≤ max
  pub each : AllByRecursion (λ u. 0 < u) units
  pub fits : AllByRecursion (λ u. u < 2 ^ 16) units

-- the pairs of a key's units and its value's, by rising key
abbrev pub Pairs : Type 0
Pairs = List (List ℕ × List ℕ)

-- keys are in the order of the first units that differ, and a key stands before those that it begins
abbrev pub key_order : List ℕ → List ℕ → Ordering
key_order = slice_cmp nat_cmp

-- each key stands once, in order, and there are at most 256
pub record IsMap (pool : Pairs) : Type 0 where
  pub rising : IsStrictlySortedBy key_order (keys_of pool)
  pub few : length pool ≤ 256

-- the value of a key
abbrev pub value_in : List ℕ → Pairs → Option (List ℕ)
value_in key pool = lookup (is_at (key_order key)) pool

-- the map in which a key has this value
abbrev pub with_pair : List ℕ → List ℕ → Pairs → Pairs
with_pair key value pool = insert_entry key_order pool key value

-- the map without a key
abbrev pub without : List ℕ → Pairs → Pairs
without key pool = remove_entry (is_at (key_order key)) pool

-- a key can be set: it is there, or there is room
abbrev pub can_set : List ℕ → Pairs → Bool
can_set key pool = is_some (value_in key pool) || nat_lt (length pool) 256
