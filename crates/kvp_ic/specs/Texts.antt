-- Texts in messages: units of two bytes, the low byte first, with a last unit of 0 behind them, in a field of a fixed size.
use Rattle.std.specs.Prelude.{◌≡◌, ℕ, ◌+◌, ◌-◌, ◌*◌, ◌/◌, ◌%◌, ◌==◌, ◌&&◌, nat_le, Bool, not, is_none, List, [], ◌∷◌, ◌++◌, length, drop, Option, Some, None, if◌then◌else◌}
use Rattle.std.specs.List.{flat_map}
use Rattle.wire_table.specs.Little.{bytes_of}
use Rattle.wire_table.specs.Rows.{numbers_in}
use Rattle.util_ic.specs.Messages.{number_at, zeros}
use Rattle.kvp_pool.specs.Pools.{IsText}
use Rattle.kvp_ic.specs.declared.text.TextPlace.{TextPlace}

-- how many bytes so many units have, with a last unit of 0
abbrev pub text_size : ℕ → ℕ
text_size n = 2 * (n + 1)

-- a field of so many bytes with a text: each unit with its low byte first, and zeros behind them
abbrev pub field_of : ℕ → List ℕ → List ℕ
field_of room units = flat_map (bytes_of 2) units ++ zeros (room - 2 * length units)

-- a text of so many units at least and at most stands in a message: its size counts a last unit of 0, which stands behind its units
pub record Holds (min max : ℕ) (place : TextPlace) (units b : List ℕ) : Type 0 where
  pub text : IsText min max units
  pub size : number_at place.size_at 4 b ≡ text_size (length units)
  pub here : numbers_in 2 (length units + 1) (drop place.at b) ≡ units ++ 0 ∷ []

-- ---- what is wrong with other bytes

-- the size that a message says
abbrev pub size_at : TextPlace → List ℕ → ℕ
size_at place b = number_at place.size_at 4 b

-- a size is even, and counts from the least units to the most with a last one
abbrev pub is_size : ℕ → ℕ → ℕ → Bool
is_size min max size = (size % 2 == 0) && nat_le (text_size min) size && nat_le size (text_size max)

-- the units that the size counts, the last among them, and those before the last
abbrev pub units_at : TextPlace → List ℕ → List ℕ
units_at place b = numbers_in 2 (size_at place b / 2) (drop place.at b)

abbrev pub text_at : TextPlace → List ℕ → List ℕ
text_at place b = numbers_in 2 (size_at place b / 2 - 1) (drop place.at b)

-- a unit behind which so many follow is right: the last is 0, and no other
abbrev pub is_right : ℕ → ℕ → Bool
is_right u left = if left == 0 then u == 0 else not (u == 0)

-- the first unit of these, counted from k on, that isn't right
abbrev pub wrong_unit : ℕ → List ℕ → Option ℕ
wrong_unit k [] = None
wrong_unit k (u ∷ us) = if is_right u (length us) then wrong_unit (k + 1) us else Some k

-- the text that stands in a message, where its size and its units are right
abbrev pub text_in : ℕ → ℕ → TextPlace → List ℕ → Option (List ℕ)
text_in min max place b =
    if is_size min max (size_at place b) && is_none (wrong_unit 0 (units_at place b)) then Some (text_at place b) else None
