-- Words that name places of a channel, and numbers.
use Rattle.std.specs.Prelude.{ℕ, ◌%◌, ◌==◌, ◌&&◌, nat_lt, List, codes, Option, Some, None, if◌then◌else◌}
use Rattle.std.specs.Str.{bytes_eq}
use Rattle.ring_machine.specs.declared.place.Ring.{Ring}
use Rattle.ring_machine.specs.declared.place.Ring.TheVariants.{ToHost, ToGuest}
use Rattle.ring_machine.specs.declared.place.Place.{Place}
use Rattle.ring_machine.specs.declared.place.Place.TheVariants.{Write, Read, Mask, Pending, Feature, Cell}
use Rattle.script_text.specs.Forms.{is_decimal, number_of, in_u64}
use Rattle.line_words.specs.Values.{is_value, value_of}
use Rattle.hostile_lines.specs.declared.command.Put.{Put}

-- in is the ring to the guest, whose end is under test, and out the ring to the host
abbrev pub ring_of : List ℕ → Option Ring
ring_of w = if bytes_eq w (codes "in") then Some ToGuest else if bytes_eq w (codes "out") then Some ToHost else None

-- a cell's offset is a multiple of 8 below the ring's size d
abbrev pub offset_of : ℕ → Option ℕ → Option ℕ
offset_of d None = None
offset_of d (Some at) = if nat_lt at d && (at % 8 == 0) then Some at else None

-- an offset in its form: none inside, where it is none of the ring's
abbrev pub cell_of : ℕ → List ℕ → Option (Option ℕ)
cell_of d offset = if is_decimal offset then Some (offset_of d (in_u64 (number_of offset))) else None

-- the header words of a ring
abbrev pub header_of : Ring → List ℕ → Option Place
header_of r name =
    if bytes_eq name (codes "write") then Some (Write r) else
    if bytes_eq name (codes "read") then Some (Read r) else
    if bytes_eq name (codes "mask") then Some (Mask r) else
    if bytes_eq name (codes "pending") then Some (Pending r) else
    if bytes_eq name (codes "feature") then Some (Feature r) else None

-- a number in its form: none inside, where it has more than 64 bits
abbrev pub number_in : List ℕ → Option (Option ℕ)
number_in w = if is_value w then Some (value_of w) else None

-- the word that is set, where its place and its value are in range
abbrev pub put_of : Option Place → Option ℕ → Option Put
put_of (Some p) (Some v) = Some (record { place = p; value = v })
put_of (Some p) None = None
put_of None v = None

-- the cell at an offset
abbrev pub cell_at : Ring → Option ℕ → Option Place
cell_at r None = None
cell_at r (Some at) = Some (Cell r at)
