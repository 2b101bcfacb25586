-- Layouts of fields, and what is wrong with one.
use Rattle.std.specs.Prelude.{◌≡◌, ℕ, ◌+◌, ◌<◌, ◌≤◌, ◌⊎◌, length, slice_range, Bool, true, ◌&&◌, ◌||◌, nat_lt, ◌==◌, List, [], ◌∷◌, Option, Some, None, if◌then◌else◌, slice_index_or}
use Rattle.std.specs.List.{list_all}
use Rattle.wire_table.specs.Little.{number_of}
use Rattle.wire_table.specs.declared.field.Field.{Field}
use Rattle.wire_table.specs.declared.field.LayoutFault.{LayoutFault}
use Rattle.wire_table.specs.declared.field.LayoutFault.TheVariants.{Overlap, PastEnd}

-- a width that a number may have
abbrev pub is_width : ℕ → Bool
is_width w = (w == 1) || (w == 2) || (w == 4) || (w == 8)

-- each field has a width of a number
abbrev pub EachWidth : List Field → Type 0
EachWidth fs = list_all (λ f. is_width f.width) fs ≡ true

-- the test whether two fields share a byte
abbrev pub share : Field → Field → Bool
share f g = nat_lt f.at (g.at + g.width) && nat_lt g.at (f.at + f.width)

-- the first field of these, counted from k on, that shares a byte with f
abbrev pub shared_by : Field → ℕ → List Field → Option ℕ
shared_by f k [] = None
shared_by f k (g ∷ gs) = if share f g then Some k else shared_by f (k + 1) gs

-- an overlap of field k where there is one, or else the other fault
abbrev pub as_overlap : ℕ → Option ℕ → Option LayoutFault → Option LayoutFault
as_overlap k (Some j) other = Some (Overlap k j)
as_overlap k None other = other

-- the least pair of fields that share a byte
abbrev pub overlap_of : ℕ → List Field → Option LayoutFault
overlap_of k [] = None
overlap_of k (f ∷ fs) = as_overlap k (shared_by f (k + 1) fs) (overlap_of (k + 1) fs)

-- the first field that ends past the size
abbrev pub past_end_of : ℕ → ℕ → List Field → Option LayoutFault
past_end_of size k [] = None
past_end_of size k (f ∷ fs) = if nat_lt size (f.at + f.width) then Some (PastEnd k) else past_end_of size (k + 1) fs

-- the first fault where there is one, or else the other
abbrev pub or_else : Option LayoutFault → Option LayoutFault → Option LayoutFault
or_else (Some e) other = Some e
or_else None other = other

-- the first fault of a layout, an overlap before a field past the end
abbrev pub fault_of : ℕ → List Field → Option LayoutFault
fault_of size fs = or_else (overlap_of 0 fs) (past_end_of size 0 fs)

-- field i
abbrev pub field_of : List Field → ℕ → Field
field_of fs i = slice_index_or fs i (record { at = 0; width = 0 })

-- where field i begins
abbrev pub at_of : List Field → ℕ → ℕ
at_of fs i = (field_of fs i).at

-- how many bytes field i has
abbrev pub width_of : List Field → ℕ → ℕ
width_of fs i = (field_of fs i).width

-- where field i ends
abbrev pub end_of : List Field → ℕ → ℕ
end_of fs i = at_of fs i + width_of fs i

-- the number that field i has in these bytes
abbrev pub value_in : List Field → ℕ → List ℕ → ℕ
value_in fs i bytes = number_of (slice_range bytes (at_of fs i) (end_of fs i))

-- a byte belongs to a field
abbrev pub Covers : Field → ℕ → Type 0
Covers f k = (f.at ≤ k) × (k < f.at + f.width)

-- two fields share a byte
pub record SharesByte (f g : Field) : Type 0 where
  pub byte : ℕ
  pub first : Covers f byte
  pub second : Covers g byte

-- no two fields share a byte
abbrev pub IsApart : List Field → Type 0
IsApart fs = (a b : ℕ) → a < b → b < length fs → ¬ SharesByte (field_of fs a) (field_of fs b)

-- fields i and j share a byte, and no pair before them in order does
pub record IsLeastOverlap (fs : List Field) (i j : ℕ) : Type 0 where
  pub order : i < j
  pub within : j < length fs
  pub shares : SharesByte (field_of fs i) (field_of fs j)
  pub least : (a b : ℕ) → a < b → b < length fs → SharesByte (field_of fs a) (field_of fs b) → (i < a) ⊎ ((i ≡ a) × (j ≤ b))

-- no two fields share a byte, and field i is the first that ends past the size
pub record IsFirstPastEnd (size : ℕ) (fs : List Field) (i : ℕ) : Type 0 where
  pub apart : IsApart fs
  pub within : i < length fs
  pub past : size < end_of fs i
  pub first : (a : ℕ) → a < i → end_of fs a ≤ size

-- what each fault says of a layout
abbrev pub IsFaultOf : ℕ → List Field → LayoutFault → Type 0
IsFaultOf size fs (Overlap i j) = IsLeastOverlap fs i j
IsFaultOf size fs (PastEnd i) = IsFirstPastEnd size fs i

-- no two fields share a byte, and each ends within the size
pub record IsSound (size : ℕ) (fs : List Field) : Type 0 where
  pub apart : IsApart fs
  pub within : (i : ℕ) → i < length fs → end_of fs i ≤ size
