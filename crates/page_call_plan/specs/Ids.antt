-- How many requests of each id are open.
use Rattle.std.specs.Prelude.{ℕ, ◌+◌, ◌-◌, Bool, ◌&&◌, ◌==◌, nat_lt, not, cond, List, [], ◌∷◌, slice_index_or, slice_set, Option, Some, None, is_some}
use Rattle.std.specs.List.{position}
pub use Rattle.page_call_plan.specs.declared.ids.IdSlot.{IdSlot}

abbrev pub free : IdSlot
free = record { tid = 0; count = 0 }

-- how many requests of the id t there are
abbrev pub of_id : ℕ → IdSlot → ℕ
of_id t s = cond (s.tid == t) s.count 0

abbrev pub ids_in : ℕ → List IdSlot → ℕ
ids_in t [] = 0
ids_in t (s ∷ ss) = of_id t s + ids_in t ss

-- a slot has requests of this id; and room for one more beside them
abbrev pub counts : ℕ → IdSlot → Bool
counts t s = (s.tid == t) && not (s.count == 0)

abbrev pub adds : ℕ → IdSlot → Bool
adds t s = (s.tid == t) && (not (s.count == 0) && nat_lt s.count 18446744073709551615)

abbrev pub is_free : IdSlot → Bool
is_free s = s.count == 0

abbrev pub has_id : ℕ → List IdSlot → Bool
has_id t ss = is_some (position (λ s. counts t s) ss)

-- one more request of an id comes to the first slot that has the id and room, or else to the first free one
abbrev pub first_else : Option ℕ → Option ℕ → Option ℕ
first_else None o = o
first_else (Some i) o = Some i

abbrev pub room_for : ℕ → List IdSlot → Option ℕ
room_for t ss = first_else (position (λ s. adds t s) ss) (position (λ s. is_free s) ss)

abbrev pub has_room : ℕ → List IdSlot → Bool
has_room t ss = is_some (room_for t ss)

-- room for one more request of any id
abbrev pub has_free : List IdSlot → Bool
has_free ss = is_some (position (λ s. is_free s) ss)

-- one request more, and one less
abbrev pub more_at : ℕ → List IdSlot → Option ℕ → List IdSlot
more_at t ss None = ss
more_at t ss (Some i) = slice_set ss i record { tid = t; count = (slice_index_or ss i free).count + 1 }

abbrev pub with_id : ℕ → List IdSlot → List IdSlot
with_id t ss = more_at t ss (room_for t ss)

abbrev pub less_at : ℕ → List IdSlot → Option ℕ → List IdSlot
less_at t ss None = ss
less_at t ss (Some i) = slice_set ss i record { tid = t; count = (slice_index_or ss i free).count - 1 }

abbrev pub without_id : ℕ → List IdSlot → List IdSlot
without_id t ss = less_at t ss (position (λ s. counts t s) ss)
