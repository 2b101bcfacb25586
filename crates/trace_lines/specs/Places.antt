-- Words that name places.
use Rattle.std.specs.Prelude.{ℕ, ◌%◌, ◌==◌, ◌&&◌, nat_le, nat_lt, List, take, drop, length, codes, Option, Some, None, if◌then◌else◌, option_and_then}
use Rattle.std.specs.Option.{option_or}
use Rattle.std.specs.Str.{bytes_eq}
use Rattle.io_edge.specs.declared.side.Side.{Side}
use Rattle.io_edge.specs.declared.side.Side.TheVariants.{Guest, Host}
use Rattle.ring_machine.specs.declared.place.Ring.{Ring}
use Rattle.ring_machine.specs.declared.place.Ring.TheVariants.{ToHost, ToGuest}
use Rattle.ring_machine.specs.declared.place.Place.{Place}
use Rattle.ring_machine.specs.declared.place.Place.TheVariants.{Write, Read, Mask, Pending, Feature, Cell, Mark}
use Rattle.script_text.specs.Forms.{is_decimal, number_of, in_u64}

-- the end that a word names
abbrev pub side_of : List ℕ → Option Side
side_of w = if bytes_eq w (codes "guest") then Some Guest else if bytes_eq w (codes "host") then Some Host else None

-- a cell's offset is a multiple of 8 below the ring's size d
abbrev pub offset_of : ℕ → Ring → Option ℕ → Option Place
offset_of d r None = None
offset_of d r (Some at) = if nat_lt at d && (at % 8 == 0) then Some (Cell r at) else None

-- a cell of the ring, by the word of its offset: none inside, where the offset is none of the ring's
abbrev pub cell_of : ℕ → Ring → List ℕ → Option (Option Place)
cell_of d r offset = if is_decimal offset then Some (offset_of d r (in_u64 (number_of offset))) else None

-- what stands behind this front of a word
abbrev pub behind : List ℕ → List ℕ → Option (List ℕ)
behind front w = if nat_le (length front) (length w) && bytes_eq (take (length front) w) front then Some (drop (length front) w) else None

abbrev pub cell_behind : ℕ → Ring → List ℕ → List ℕ → Option (Option Place)
cell_behind d r front w = option_and_then (cell_of d r) (behind front w)

-- RING.cell.OFFSET
abbrev pub cell_in : ℕ → List ℕ → Option (Option Place)
cell_in d w = option_or (cell_behind d ToHost (codes "tohost.cell.") w) (cell_behind d ToGuest (codes "toguest.cell.") w)

-- the table of places of a channel whose rings have d bytes of data
abbrev pub place_in : ℕ → List ℕ → Option (Option Place)
place_in d w =
    if bytes_eq w (codes "tohost.write") then Some (Some (Write ToHost)) else
    if bytes_eq w (codes "tohost.read") then Some (Some (Read ToHost)) else
    if bytes_eq w (codes "tohost.mask") then Some (Some (Mask ToHost)) else
    if bytes_eq w (codes "tohost.pending") then Some (Some (Pending ToHost)) else
    if bytes_eq w (codes "tohost.feature") then Some (Some (Feature ToHost)) else
    if bytes_eq w (codes "toguest.write") then Some (Some (Write ToGuest)) else
    if bytes_eq w (codes "toguest.read") then Some (Some (Read ToGuest)) else
    if bytes_eq w (codes "toguest.mask") then Some (Some (Mask ToGuest)) else
    if bytes_eq w (codes "toguest.pending") then Some (Some (Pending ToGuest)) else
    if bytes_eq w (codes "toguest.feature") then Some (Some (Feature ToGuest)) else
    if bytes_eq w (codes "guest.mark") then Some (Some (Mark Guest)) else
    if bytes_eq w (codes "host.mark") then Some (Some (Mark Host)) else cell_in d w
