-- Numbers and bytes at the places of longer bytes.
use Rattle.std.specs.Prelude.{ℕ, ◌+◌, List, ◌++◌, length, take, drop, slice_range}
use Rattle.wire_table.specs.Little.{number_of, bytes_of}

-- the number of so many bytes at a place
abbrev pub number_at : ℕ → ℕ → List ℕ → ℕ
number_at at width b = number_of (slice_range b at (at + width))

-- the bytes with others in their place from here on
unfoldable pub with_bytes : ℕ → List ℕ → List ℕ → List ℕ
with_bytes at part b = (take at b ++ part) ++ drop (at + length part) b

-- the bytes with a number of so many bytes at a place
unfoldable pub with_number : ℕ → ℕ → ℕ → List ℕ → List ℕ
with_number at width v b = (take at b ++ bytes_of width v) ++ drop (at + width) b
