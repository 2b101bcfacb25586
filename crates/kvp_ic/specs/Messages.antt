-- The messages of key-value exchange: two headers of 28 bytes together, the operation, the pool, where a place is asked for its
-- number, and a record: the value's type, the sizes of key and value, and a field for each.
use Rattle.std.specs.Prelude.{◌≡◌, ℕ, ◌+◌, ◌^◌, ◌<◌, ◌≤◌, ◌==◌, List, [], ◌∷◌, length, slice_index, if◌then◌else◌}
use Rattle.wire_table.specs.Rows.{Row, num, raw, spelled_after}
use Rattle.util_ic.specs.Messages.{number_at, request_rows}
use Rattle.kvp_ic.specs.declared.message.Kvp.{Kvp}
use Rattle.kvp_ic.specs.declared.message.Kvp.TheVariants.{Get, Set, Delete, Enum}
use Rattle.kvp_ic.specs.declared.text.TextPlace.{TextPlace}
use Rattle.kvp_pool.specs.Pools.{IsText}
use Rattle.kvp_ic.specs.Machine.{pool_of}
use Rattle.kvp_ic.specs.Texts.{text_size, field_of, Holds}

-- ---- what is written

-- the operation, the pool and two reserved bytes
abbrev pub asked_rows : ℕ → ℕ → List Row → List Row
asked_rows operation pool later = num 1 operation ∷ num 1 pool ∷ num 2 0 ∷ later

-- the record: its value is a text
abbrev pub record_rows : ℕ → ℕ → List Row → List Row
record_rows key_size value_size fields = num 4 1 ∷ num 4 key_size ∷ num 4 value_size ∷ fields

-- the fields of key and value
abbrev pub field_rows : List ℕ → List ℕ → List Row
field_rows key value = raw (field_of 512 key) ∷ raw (field_of 2048 value) ∷ []

-- a request about a key
abbrev pub keyed_rows : ℕ → ℕ → ℕ → ℕ → List Row → List Row
keyed_rows operation pool key_size value_size fields = request_rows 3 2 2576 (asked_rows operation pool (record_rows key_size value_size fields))

-- a request about a place
abbrev pub placed_rows : ℕ → ℕ → List Row → List Row
placed_rows pool index fields = request_rows 3 2 2580 (asked_rows 3 pool (num 4 index ∷ record_rows 0 0 fields))

abbrev pub rows_of : Kvp → List Row
rows_of (Get pool key) = keyed_rows 0 pool (text_size (length key)) 0 (field_rows key [])
rows_of (Set pool key value) = keyed_rows 1 pool (text_size (length key)) (text_size (length value)) (field_rows key value)
rows_of (Delete pool key) = keyed_rows 2 pool (text_size (length key)) 0 (field_rows key [])
rows_of (Enum pool index) = placed_rows pool index (field_rows [] [])

-- a request of message version 3.0: 2,604 bytes, or 2,608 where a place is asked for
abbrev pub kvp_bytes : Kvp → List ℕ
kvp_bytes m = spelled_after [] (rows_of m)

-- the texts of a request are texts, and its place is a number of 4 bytes
abbrev pub HasTexts : Kvp → Type 0
HasTexts (Get pool key) = IsText 1 255 key
HasTexts (Set pool key value) = IsText 1 255 key × IsText 0 1023 value
HasTexts (Delete pool key) = IsText 1 255 key
HasTexts (Enum pool index) = index < 2 ^ 32

-- a request that a message can say, of one of the five pools
abbrev pub CanBeAsked : Kvp → Type 0
CanBeAsked m = HasTexts m × (pool_of m ≤ 4)

-- ---- what is read

abbrev pub operation_of : List ℕ → ℕ
operation_of b = slice_index b 28

abbrev pub pool_in : List ℕ → ℕ
pool_in b = slice_index b 29

abbrev pub index_in : List ℕ → ℕ
index_in b = number_at 32 4 b

-- where a record stands: behind the number of a place, where that is asked for
abbrev pub record_at : ℕ → ℕ
record_at operation = if operation == 3 then 36 else 32

-- how many bytes a message has at least
abbrev pub message_size : ℕ → ℕ
message_size operation = if operation == 3 then 2608 else 2604

-- where key and value stand
abbrev pub key_place : ℕ → TextPlace
key_place operation = record { size_at = record_at operation + 4; at = record_at operation + 12 }

abbrev pub value_place : ℕ → TextPlace
value_place operation = record { size_at = record_at operation + 8; at = record_at operation + 524 }

-- bytes begin with a message of this operation on one of the five pools
pub record HasHead (operation pool : ℕ) (b : List ℕ) : Type 0 where
  pub long : message_size operation ≤ length b
  pub is_operation : operation_of b ≡ operation
  pub is_pool : pool_in b ≡ pool
  pub five : pool ≤ 4

-- bytes begin with a message that asks this. Get and delete look at the key alone, and a request about a place at neither text
abbrev pub Asks : Kvp → List ℕ → Type 0
Asks (Get pool key) b = HasHead 0 pool b × Holds 1 255 (key_place 0) key b
Asks (Set pool key value) b = HasHead 1 pool b × Holds 1 255 (key_place 1) key b × Holds 0 1023 (value_place 1) value b
Asks (Delete pool key) b = HasHead 2 pool b × Holds 1 255 (key_place 2) key b
Asks (Enum pool index) b = HasHead 3 pool b × (index_in b ≡ index)
