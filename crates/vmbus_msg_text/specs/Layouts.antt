-- The layouts of the messages as the code has them.
use Rattle.std.specs.Prelude.{◌≡◌, ℕ, Bool, true, ◌&&◌, nat_le, ◌≤◌, ◌+◌, ◌*◌, ◌==◌, ◌||◌, List, [], ◌∷◌, ◌++◌, length, slice_range, Option, Some, None, if◌then◌else◌}
use Rattle.std.specs.List.{list_all}
use Rattle.std.specs.Fmt.{decimal}
use Rattle.wire_table.specs.Little.{number_of}
use Rattle.wire_table.specs.Rows.{Kind, nums, raws}
use Rattle.vmbus_msg.specs.Grammar.{kinds_of}
use Rattle.script_text.specs.Runs.{runs_text}
use Rattle.vmbus_msg_text.specs.declared.layout.Shown.{Shown}
use Rattle.vmbus_msg_text.specs.declared.layout.Shown.TheVariants.{Hidden, Number, Digits, Runs}
use Rattle.vmbus_msg_text.specs.declared.layout.Layout.{Layout}
use Rattle.vmbus_msg_text.specs.Digits.{digits_text}
use Rattle.vmbus_msg_text.specs.Names.{Show, hidden, number, digits, runs, name_of, shows_of}
use Rattle.vmbus_msg_text.specs.Pieces.{named_text}

-- how a field is printed
abbrev pub show_in : Shown → Show
show_in Hidden = hidden
show_in (Number name) = number name.now
show_in (Digits name) = digits name.now
show_in (Runs name) = runs name.now

-- what a field of so many bytes is
abbrev pub kind_in : Shown → ℕ → Kind
kind_in Hidden width = nums width
kind_in (Number name) width = nums width
kind_in (Digits name) width = raws width
kind_in (Runs name) width = raws width

-- how fields are printed
abbrev pub shows_in : List (Shown × ℕ) → List Show
shows_in [] = []
shows_in (f ∷ fs) = show_in f.0 ∷ shows_in fs

-- what fields are
abbrev pub kinds_in : List (Shown × ℕ) → List Kind
kinds_in [] = []
kinds_in (f ∷ fs) = kind_in f.0 f.1 ∷ kinds_in fs

-- the width of a number that is printed
abbrev pub number_width : Shown → ℕ → ℕ
number_width Hidden width = 0
number_width (Number name) width = width
number_width (Digits name) width = 0
number_width (Runs name) width = 0

-- fields from a place on stand in so many bytes, and their numbers are narrow
abbrev pub Holds : List (Shown × ℕ) → ℕ → ℕ → Type 0
Holds [] at n = at ≤ n
Holds (f ∷ fs) at n = (number_width f.0 f.1 ≤ 8) × (at + f.1 ≤ n) × Holds fs (at + f.1) n

-- the text of a field at a place
abbrev pub field_text : Shown → ℕ → ℕ → List ℕ → List ℕ
field_text Hidden width at b = []
field_text (Number name) width at b = named_text name.now (decimal (number_of (slice_range b at (at + width))))
field_text (Digits name) width at b = named_text name.now (digits_text (slice_range b at (at + width)))
field_text (Runs name) width at b = named_text name.now (runs_text (slice_range b at (at + width)))

-- the text of fields from a place on
abbrev pub fields_text : List (Shown × ℕ) → ℕ → List ℕ → List ℕ
fields_text [] at b = []
fields_text (f ∷ fs) at b = field_text f.0 f.1 at b ++ fields_text fs (at + f.1) b

-- no text of a field is longer
abbrev pub most_of : Shown → ℕ → ℕ
most_of Hidden width = 0
most_of (Number name) width = 22 + length name.now
most_of (Digits name) width = 2 + length name.now + 2 * width
most_of (Runs name) width = 2 + length name.now + 24 * width

-- no texts of fields are longer together
abbrev pub most_in : List (Shown × ℕ) → ℕ
most_in [] = 0
most_in (f ∷ fs) = most_of f.0 f.1 + most_in fs

-- the first layout of a type
abbrev pub layout_among : List Layout → ℕ → Option Layout
layout_among [] k = None
layout_among (l ∷ ls) k = if k == l.kind then Some l else layout_among ls k

-- its name, none where there is no layout of the type
abbrev pub name_among : List Layout → ℕ → List ℕ
name_among [] k = []
name_among (l ∷ ls) k = if k == l.kind then l.name.now else name_among ls k

-- how its fields are printed
abbrev pub shows_among : List Layout → ℕ → List Show
shows_among [] k = []
shows_among (l ∷ ls) k = if k == l.kind then shows_in l.fields.now else shows_among ls k

-- what its fields are
abbrev pub kinds_among : List Layout → ℕ → List Kind
kinds_among [] k = []
kinds_among (l ∷ ls) k = if k == l.kind then kinds_in l.fields.now else kinds_among ls k

-- the room that is kept for the frames of a page list's header or body
abbrev pub frames_room : ℕ → ℕ
frames_room k = if k == 8 || k == 9 then 596 else 0

-- the numbers that are printed are narrow
abbrev pub narrow : List (Shown × ℕ) → Bool
narrow [] = true
narrow (f ∷ fs) = nat_le (number_width f.0 f.1) 8 && narrow fs

-- and a layout's text is short
abbrev pub fits : Layout → Bool
fits l = nat_le (length l.name.now + most_in l.fields.now + frames_room l.kind) 3300 && narrow l.fields.now

-- the layouts have the name and the fields of each type
pub record AreLayouts (ls : List Layout) : Type 0 where
  pub names : (k : ℕ) → name_among ls k ≡ name_of k
  pub shows : (k : ℕ) → shows_among ls k ≡ shows_of k
  pub kinds : (k : ℕ) → kinds_among ls k ≡ kinds_of k
  pub fit : list_all fits ls ≡ true
