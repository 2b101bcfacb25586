-- Messages as rows: little-endian numbers of a width, and raw bytes.
use Rattle.std.specs.Prelude.{◌≡◌, ℕ, zero, suc, ◌+◌, ◌^◌, ◌<◌, List, [], ◌∷◌, ◌++◌, length, take, drop, slice_range, slice_index_or}
use Rattle.std.specs.List.{AllByRecursion}
use Rattle.wire_table.specs.Little.{number_of, bytes_of}

-- one row of a message: a number with its width, or bytes as they are
pub data Row : Type 0 where
  num : ℕ → ℕ → Row
  raw : List ℕ → Row

-- what a row may be: a number of this width, or this many bytes
pub data Kind : Type 0 where
  nums : ℕ → Kind
  raws : ℕ → Kind

-- the bytes of a row
abbrev pub bytes_in : Row → List ℕ
bytes_in (num w v) = bytes_of w v
bytes_in (raw bs) = bs

-- the bytes of rows in order, behind what is there already
abbrev pub spelled_after : List ℕ → List Row → List ℕ
spelled_after front [] = front
spelled_after front (r ∷ rs) = spelled_after (front ++ bytes_in r) rs

-- how many bytes a row of a kind has
abbrev pub size_of : Kind → ℕ
size_of (nums w) = w
size_of (raws n) = n

-- how many bytes rows of these kinds have
abbrev pub total : List Kind → ℕ
total [] = 0
total (k ∷ ks) = size_of k + total ks

-- a row is of a kind: a number that fits its width, or as many bytes
abbrev pub Has : Kind → Row → Type 0
Has (nums w) (num x v) = (x ≡ w) × (v < 256 ^ w)
Has (nums w) (raw bs) = ⊥
Has (raws n) (num x v) = ⊥
Has (raws n) (raw bs) = (length bs ≡ n) × AllByRecursion (λ b. b < 256) bs

-- each row is of its kind, and there are as many
abbrev pub AllHave : List Kind → List Row → Type 0
AllHave [] [] = Unit {0}
AllHave [] (r ∷ rs) = ⊥
AllHave (k ∷ ks) [] = ⊥
AllHave (k ∷ ks) (r ∷ rs) = Has k r × AllHave ks rs

-- the row of a kind that stands at a place
abbrev pub row_at : Kind → ℕ → List ℕ → Row
row_at (nums w) at b = num w (number_of (slice_range b at (at + w)))
row_at (raws n) at b = raw (slice_range b at (at + n))

-- the rows of these kinds that stand from a place on
abbrev pub rows_at : List Kind → ℕ → List ℕ → List Row
rows_at [] at b = []
rows_at (k ∷ ks) at b = row_at k at b ∷ rows_at ks (at + size_of k) b

-- the number of a row, 0 where it is raw
abbrev pub number_in : Row → ℕ
number_in (num w v) = v
number_in (raw bs) = 0

-- the bytes of a raw row, none where it is a number
abbrev pub raw_in : Row → List ℕ
raw_in (num w v) = []
raw_in (raw bs) = bs

-- the number of row i
abbrev pub nth_number : ℕ → List Row → ℕ
nth_number i rs = number_in (slice_index_or rs i (num 0 0))

-- the bytes of raw row i
abbrev pub nth_raw : ℕ → List Row → List ℕ
nth_raw i rs = raw_in (slice_index_or rs i (num 0 0))

-- this many numbers of one width
unfoldable pub numbers_in : ℕ → ℕ → List ℕ → List ℕ
numbers_in w zero b = []
numbers_in w (suc n) b = number_of (take w b) ∷ numbers_in w n (drop w b)
