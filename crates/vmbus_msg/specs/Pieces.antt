-- The rows of fields as they are handed on to be written.
use Rattle.std.specs.Prelude.{ℕ, List, [], ◌∷◌, length}
use Rattle.wire_table.specs.Rows.{Row, num, raw, Kind, nums, raws}
use Rattle.vmbus_msg.specs.declared.piece.Piece.{Piece}
use Rattle.vmbus_msg.specs.declared.piece.Piece.TheVariants.{U8, U16, U32, U64, Raw}

-- the row of a field
abbrev pub row_in : Piece → Row
row_in (U8 v) = num 1 v
row_in (U16 v) = num 2 v
row_in (U32 v) = num 4 v
row_in (U64 v) = num 8 v
row_in (Raw bytes) = raw bytes.now

-- what it is
abbrev pub kind_in : Piece → Kind
kind_in (U8 v) = nums 1
kind_in (U16 v) = nums 2
kind_in (U32 v) = nums 4
kind_in (U64 v) = nums 8
kind_in (Raw bytes) = raws (length bytes.now)

-- the rows of fields in order
abbrev pub rows_in : List Piece → List Row
rows_in [] = []
rows_in (p ∷ ps) = row_in p ∷ rows_in ps

-- and what they are
abbrev pub kinds_in : List Piece → List Kind
kinds_in [] = []
kinds_in (p ∷ ps) = kind_in p ∷ kinds_in ps

-- the rows of fields of 32 bits in order
abbrev pub word_rows : List ℕ → List Row
word_rows [] = []
word_rows (v ∷ vs) = num 4 v ∷ word_rows vs

-- and what they are
abbrev pub word_kinds : List ℕ → List Kind
word_kinds [] = []
word_kinds (v ∷ vs) = nums 4 ∷ word_kinds vs
