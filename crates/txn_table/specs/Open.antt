-- Open requests: a finite map from the ids 1, 2 and so on, as the list of what each id has.
use Rattle.std.specs.Prelude.{ℕ, ◌≡◌, zero, suc, List, Option, None, slice_index_or}
use Rattle.std.specs.List.{filter_map}

module _ {R : Type 0} where
  -- the request that is open under an id, if one is
  abbrev pub request_of : List (Option R) → ℕ → Option R
  request_of rs zero = None
  request_of rs (suc place) = slice_index_or rs place None

  -- all open requests, by rising id
  abbrev pub requests : List (Option R) → List R
  requests rs = filter_map (λ r. r) rs

  -- no request is open under any id
  abbrev pub HasNone : List (Option R) → Type 0
  HasNone rs = (id : ℕ) → request_of rs id ≡ None
