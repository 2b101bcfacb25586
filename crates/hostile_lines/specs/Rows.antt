-- The rows of the table of lines.
use Rattle.std.specs.Prelude.{ℕ, ◌+◌, ◌*◌, ◌%◌, ◌==◌, ◌&&◌, nat_le, nat_lt, List, [], ◌∷◌, length, codes, Option, Some, None, if◌then◌else◌, option_and_then}
use Rattle.std.specs.Option.{option_map}
use Rattle.std.specs.Str.{bytes_eq}
use Rattle.ring_core.specs.declared.told_mem.Change.{Change}
use Rattle.ring_machine.specs.declared.place.Place.{Place}
use Rattle.ring_machine.specs.declared.place.Ring.{Ring}
use Rattle.script_text.specs.Forms.{is_decimal, number_of, in_u64, within, are_bytes, bytes_of}
use Rattle.line_words.specs.Lines.{words_in}
use Rattle.hostile_lines.specs.Places.{ring_of, cell_of, header_of, number_in, put_of, cell_at}
use Rattle.hostile_lines.specs.declared.command.EndCall.{EndCall}
use Rattle.hostile_lines.specs.declared.command.EndCall.TheVariants.{Send, Take, Commit, Arm, Poll}
use Rattle.hostile_lines.specs.declared.command.Command.{Command}
use Rattle.hostile_lines.specs.declared.command.Command.TheVariants.{Call, Show, Table, Accept, Complete, Gpadl, Packet, Vstor}
use Rattle.hostile_lines.specs.declared.command.Put.{Put}
use Rattle.hostile_lines.specs.declared.said.Said.{Said}
use Rattle.hostile_lines.specs.declared.said.Said.TheVariants.{Nothing, Ring as Rings, Set, Before, Long, Asks}

-- PLACE VALUE, or cell OFFSET VALUE, of a ring whose data has d bytes: the word that is set, or none inside, where it is out of range
abbrev pub header_put : Ring → List ℕ → List ℕ → Option (Option Put)
header_put r name value = option_and_then (λ p. option_map (put_of (Some p)) (number_in value)) (header_of r name)

abbrev pub cell_put : ℕ → Ring → List ℕ → List ℕ → List ℕ → Option (Option Put)
cell_put d r name offset value = if bytes_eq name (codes "cell") then option_and_then (λ at. option_map (put_of (cell_at r at)) (number_in value)) (cell_of d offset) else None

abbrev pub put_by : ℕ → Ring → List (List ℕ) → Option (Option Put)
put_by d r (name ∷ value ∷ []) = header_put r name value
put_by d r (name ∷ offset ∷ value ∷ []) = cell_put d r name offset value
put_by d r others = None

-- RING PLACE VALUE, behind set
abbrev pub put_row : ℕ → List (List ℕ) → Option (Option Put)
put_row d (ring ∷ others) = option_and_then (λ r. put_by d r others) (ring_of ring)
put_row d [] = None

-- the change of a word just before a step
abbrev pub change_of : Option ℕ → Option Put → Option Change
change_of (Some n) (Some p) = Some (record { step = n; place = p.place; value = p.value })
change_of (Some n) None = None
change_of None p = None

-- N set RING PLACE VALUE, behind before
abbrev pub before_row : ℕ → List (List ℕ) → Option Said
before_row d (n ∷ set ∷ others) =
    if is_decimal n && bytes_eq set (codes "set") then option_map (λ p. Before (change_of (within 1 1000000 (in_u64 (number_of n))) p)) (put_row d others) else None
before_row d others = None

-- a packet of n words, two at least, that fits into a ring of d bytes with its trailer
abbrev pub send_of : ℕ → Option ℕ → Option Command
send_of d None = None
send_of d (Some n) = if nat_le 2 n && nat_lt (8 * n + 8) d then Some (Call (Send n)) else None

-- a want: the need of a packet that fits
abbrev pub arm_of : ℕ → Option ℕ → Option Command
arm_of d None = None
arm_of d (Some want) = if nat_le 24 want && nat_lt want d then Some (Call (Arm (Some want))) else None

abbrev pub table_of : Option ℕ → Option Command
table_of size = option_map Table (within 1 64 size)

abbrev pub complete_of : Option ℕ → Option Command
complete_of id = option_map Complete id

abbrev pub show_of : Ring → Option ℕ → Option Command
show_of r at = option_map (Show r) at

-- one decimal number: none inside, where it has more than 64 bits
abbrev pub number_alone : List (List ℕ) → Option (Option ℕ)
number_alone (n ∷ []) = if is_decimal n then Some (in_u64 (number_of n)) else None
number_alone others = None

abbrev pub by_number : (Option ℕ → Option Command) → List (List ℕ) → Option Said
by_number make others = option_map (λ n. Asks (make n)) (number_alone others)

-- nothing
abbrev pub alone : Command → List (List ℕ) → Option Said
alone command [] = Some (Asks (Some command))
alone command (word ∷ others) = None

-- nothing or WANT
abbrev pub arm_row : ℕ → List (List ℕ) → Option Said
arm_row d [] = Some (Asks (Some (Call (Arm None))))
arm_row d (want ∷ others) = by_number (arm_of d) (want ∷ others)

-- RING OFFSET
abbrev pub show_row : ℕ → List (List ℕ) → Option Said
show_row d (ring ∷ offset ∷ []) = option_and_then (λ r. option_map (λ at. Asks (show_of r at)) (cell_of d offset)) (ring_of ring)
show_row d others = None

-- HEX has 1,024 digits at most
abbrev pub by_digits : List ℕ → Option Command → Said
by_digits w command = if nat_lt 1024 (length w) then Long else Asks command

abbrev pub gpadl_of : List ℕ → Said
gpadl_of w = by_digits w (Some (Gpadl (bytes_of w)))

abbrev pub vstor_of : List ℕ → Said
vstor_of w = by_digits w (Some (Vstor (bytes_of w)))

-- a packet has two words at least, and whole ones
abbrev pub packet_of : List ℕ → Said
packet_of w = by_digits w (if (length (bytes_of w) % 8 == 0) && nat_le 16 (length (bytes_of w)) then Some (Packet (bytes_of w)) else None)

-- HEX: two digits for each byte, and one byte at least
abbrev pub digits_alone : List (List ℕ) → Option (List ℕ)
digits_alone (hex ∷ []) = if are_bytes hex then Some hex else None
digits_alone others = None

abbrev pub by_bytes : (List ℕ → Said) → List (List ℕ) → Option Said
by_bytes make others = option_map make (digits_alone others)

-- PAGES, behind ring
abbrev pub ring_row : List (List ℕ) → Option Said
ring_row (pages ∷ []) = if is_decimal pages then Some (Rings (within 1 16 (in_u64 (number_of pages)))) else None
ring_row others = None

-- the table of calls
abbrev pub call_row : ℕ → List ℕ → List (List ℕ) → Option Said
call_row d key others =
    if bytes_eq key (codes "send") then by_number (send_of d) others else
    if bytes_eq key (codes "arm") then arm_row d others else
    if bytes_eq key (codes "take") then alone (Call Take) others else
    if bytes_eq key (codes "commit") then alone (Call Commit) others else
    if bytes_eq key (codes "poll") then alone (Call Poll) others else None

-- the table of what else is asked
abbrev pub plain_row : ℕ → List ℕ → List (List ℕ) → Option Said
plain_row d key others =
    if bytes_eq key (codes "show") then show_row d others else
    if bytes_eq key (codes "table") then by_number table_of others else
    if bytes_eq key (codes "complete") then by_number complete_of others else
    if bytes_eq key (codes "accept") then alone Accept others else call_row d key others

abbrev pub part_row : ℕ → List ℕ → List (List ℕ) → Option Said
part_row d key others =
    if bytes_eq key (codes "gpadl") then by_bytes gpadl_of others else
    if bytes_eq key (codes "packet") then by_bytes packet_of others else
    if bytes_eq key (codes "vstor") then by_bytes vstor_of others else plain_row d key others

-- the table of lines: what stands behind each key word
abbrev pub row_of : ℕ → List ℕ → List (List ℕ) → Option Said
row_of d key others =
    if bytes_eq key (codes "set") then option_map Set (put_row d others) else
    if bytes_eq key (codes "before") then before_row d others else
    if bytes_eq key (codes "ring") then ring_row others else part_row d key others

-- what these words say: nothing, where there are none
abbrev pub said_by : ℕ → List (List ℕ) → Option Said
said_by d [] = Some Nothing
said_by d (key ∷ others) = row_of d key others

-- what a line says beside rings of d bytes of data
abbrev pub said_in : ℕ → List ℕ → Option Said
said_in d line = option_and_then (said_by d) (words_in line)
