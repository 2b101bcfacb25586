-- The rows of the table of lines.
use Rattle.std.specs.Prelude.{ℕ, ◌^◌, ◌-◌, ◌==◌, Bool, true, false, ◌&&◌, nat_le, List, [], ◌∷◌, length, codes, Option, Some, None, if◌then◌else◌}
use Rattle.std.specs.List.{list_all}
use Rattle.std.specs.Option.{option_map}
use Rattle.std.specs.Str.{bytes_eq}
use Rattle.rndis_msg.specs.declared.rndis.Rndis.{Rndis}
use Rattle.rndis_msg.specs.declared.rndis.Rndis.TheVariants.{Packet, Query, Set, Reset, Keepalive}
use Rattle.script_lines.specs.declared.asked.Asked.TheVariants.{Beat, Down, Command, Message, Pair}
use Rattle.script_lines.specs.declared.disk_ask.DiskAsk.{DiskAsk}
use Rattle.script_lines.specs.declared.disk_ask.DiskAsk.TheVariants.{Ready, Inquiry, Capacity, LongCapacity, Flush, Read, Write}
use Rattle.script_lines.specs.declared.line.DeviceSpec.{DeviceSpec}
use Rattle.script_lines.specs.declared.line.DeviceSpec.TheVariants.{Beat as IsBeat, Down as IsDown, Net as IsNet, Kvp as IsKvp}
use Rattle.script_lines.specs.declared.offering.Offering.TheVariants.{Disk as OfDisk, Plain}
use Rattle.script_lines.specs.declared.said.Said.{Said}
use Rattle.script_lines.specs.declared.said.Said.TheVariants.{Nothing, Contact, Offer, Bad, Ring, Window, Request, Rescind, Close, Modify, Phase}
use Rattle.script_text.specs.Words.{words}
use Rattle.kvp_lines.specs.Rows.{operation_row}
use Rattle.script_text.specs.Forms.{is_name, is_decimal, number_of, in_u64, within, is_byte, byte_of, is_version, version_of, are_bytes, bytes_of, is_address, is_oid, oid_of}

-- NAME
abbrev pub name_alone : List (List ℕ) → Option (List ℕ)
name_alone (name ∷ []) = if is_name name then Some name else None
name_alone others = None

-- NAME NUMBER
abbrev pub name_and_number : List (List ℕ) → Option (List ℕ × Option ℕ)
name_and_number (name ∷ number ∷ []) = if is_name name && is_decimal number then Some (name, in_u64 (number_of number)) else None
name_and_number others = None

-- NAME NUMBER NUMBER
abbrev pub name_and_two : List (List ℕ) → Option (List ℕ × Option ℕ × Option ℕ)
name_and_two (name ∷ first ∷ second ∷ []) =
    if is_name name && is_decimal first && is_decimal second then Some (name, in_u64 (number_of first), in_u64 (number_of second)) else None
name_and_two others = None

-- GUEST HOST, behind contact
abbrev pub contact_row : List (List ℕ) → Option Said
contact_row (guest ∷ host ∷ []) = if is_version guest && is_version host then Some (Contact (version_of guest) (version_of host)) else None
contact_row others = None

-- how many blocks a disk has
abbrev pub blocks_in : Option ℕ → Option ℕ
blocks_in number = within 1 (2 ^ 40) number

-- NAME BLOCKS SUBS, behind offer disk
abbrev pub disk_offer : List (List ℕ) → Option Said
disk_offer others = option_map (λ p. Offer p.0 (OfDisk (blocks_in p.1) p.2)) (name_and_two others)

-- NAME MAC STATION, behind offer net
abbrev pub net_offer : List (List ℕ) → Option Said
net_offer (name ∷ mac ∷ station ∷ []) =
    if is_name name && is_address mac && is_address station then Some (Offer name (Plain (IsNet (bytes_of mac) (bytes_of station)))) else None
net_offer others = None

-- NAME, behind offer and a kind of device that has no more
abbrev pub plain_offer : DeviceSpec → List (List ℕ) → Option Said
plain_offer spec others = option_map (λ name. Offer name (Plain spec)) (name_alone others)

-- a kind of device and what stands behind it, behind offer
abbrev pub offer_row : List (List ℕ) → Option Said
offer_row [] = None
offer_row (kind ∷ others) =
    if bytes_eq kind (codes "hb") then plain_offer IsBeat others else
    if bytes_eq kind (codes "shutdown") then plain_offer IsDown others else
    if bytes_eq kind (codes "disk") then disk_offer others else
    if bytes_eq kind (codes "net") then net_offer others else
    if bytes_eq kind (codes "kvp") then plain_offer IsKvp others else None

-- NAME LBA, behind bad
abbrev pub bad_row : List (List ℕ) → Option Said
bad_row others = option_map (λ p. Bad p.0 p.1) (name_and_number others)

-- NAME PAGES, behind ring
abbrev pub ring_row : List (List ℕ) → Option Said
ring_row others = option_map (λ p. Ring p.0 (within 1 16 p.1)) (name_and_number others)

-- NAME N, behind window
abbrev pub window_row : List (List ℕ) → Option Said
window_row others = option_map (λ p. Window p.0 (within 1 64 p.1)) (name_and_number others)

-- NAME SEQ, behind beat
abbrev pub beat_row : List (List ℕ) → Option Said
beat_row others = option_map (λ p. Request p.0 (Beat p.1)) (name_and_number others)

-- NAME FLAGS, behind down
abbrev pub down_row : List (List ℕ) → Option Said
down_row others = option_map (λ p. Request p.0 (Down (within 0 (2 ^ 32 - 1) p.1))) (name_and_number others)

-- NAME, behind the key words of a disk that take no more
abbrev pub plain_command : DiskAsk → List (List ℕ) → Option Said
plain_command ask others = option_map (λ name. Request name (Command ask)) (name_alone others)

-- how many blocks a command moves
abbrev pub count_in : Option ℕ → Option ℕ
count_in number = within 0 8 number

-- NAME LBA COUNT, behind read
abbrev pub read_row : List (List ℕ) → Option Said
read_row others = option_map (λ p. Request p.0 (Command (Read p.1 (count_in p.2)))) (name_and_two others)

-- NAME LBA COUNT HH, behind write
abbrev pub write_row : List (List ℕ) → Option Said
write_row (name ∷ lba ∷ count ∷ byte ∷ []) =
    if is_name name && is_decimal lba && is_decimal count && is_byte byte
    then Some (Request name (Command (Write (in_u64 (number_of lba)) (count_in (in_u64 (number_of count))) (byte_of byte))))
    else None
write_row others = None

-- bytes, where they are so many
abbrev pub sized : ℕ → ℕ → List ℕ → Option (List ℕ)
sized low high bytes = if nat_le low (length bytes) && nat_le (length bytes) high then Some bytes else None

-- the message of a query, of a set of 1 to 64 bytes, and of a frame of 14 to 1,514
abbrev pub query_said : List ℕ → Rndis
query_said oid = Query 0 (oid_of oid) []

abbrev pub set_said : List ℕ → List ℕ → Option Rndis
set_said oid value = option_map (λ body. Set 0 (oid_of oid) body) (sized 1 64 (bytes_of value))

abbrev pub frame_said : List ℕ → Option Rndis
frame_said frame = option_map (λ body. Packet body) (sized 14 1514 (bytes_of frame))

-- NAME, behind the key words of a network that take no more
abbrev pub plain_message : Rndis → List (List ℕ) → Option Said
plain_message message others = option_map (λ name. Request name (Message (Some message))) (name_alone others)

-- NAME OID, behind query
abbrev pub query_row : List (List ℕ) → Option Said
query_row (name ∷ oid ∷ []) = if is_name name && is_oid oid then Some (Request name (Message (Some (query_said oid)))) else None
query_row others = None

-- NAME OID HEX, behind set
abbrev pub set_row : List (List ℕ) → Option Said
set_row (name ∷ oid ∷ value ∷ []) = if is_name name && is_oid oid && are_bytes value then Some (Request name (Message (set_said oid value))) else None
set_row others = None

-- NAME HEX, behind frame
abbrev pub frame_row : List (List ℕ) → Option Said
frame_row (name ∷ frame ∷ []) = if is_name name && are_bytes frame then Some (Request name (Message (frame_said frame))) else None
frame_row others = None

-- NAME and an operation on its pairs
abbrev pub pair_row : List (List ℕ) → Option Said
pair_row (name ∷ operation ∷ others) = if is_name name then option_map (λ request. Request name (Pair request)) (operation_row operation others) else None
pair_row others = None

-- what stands behind each key word of a network, or of a key-value service
abbrev pub net_row : List ℕ → List (List ℕ) → Option Said
net_row key others =
    if bytes_eq key (codes "query") then query_row others else
    if bytes_eq key (codes "set") then set_row others else
    if bytes_eq key (codes "keep") then plain_message (Keepalive 0) others else
    if bytes_eq key (codes "reset") then plain_message Reset others else
    if bytes_eq key (codes "frame") then frame_row others else
    if bytes_eq key (codes "kvp") then pair_row others else None

-- what stands behind each key word of a disk, or of another device with requests of many forms
abbrev pub disk_row : List ℕ → List (List ℕ) → Option Said
disk_row key others =
    if bytes_eq key (codes "bad") then bad_row others else
    if bytes_eq key (codes "ready") then plain_command Ready others else
    if bytes_eq key (codes "inquiry") then plain_command Inquiry others else
    if bytes_eq key (codes "capacity") then plain_command Capacity others else
    if bytes_eq key (codes "capacity16") then plain_command LongCapacity others else
    if bytes_eq key (codes "flush") then plain_command Flush others else
    if bytes_eq key (codes "read") then read_row others else
    if bytes_eq key (codes "write") then write_row others else net_row key others

-- nothing, or held
abbrev pub held_row : List (List ℕ) → Option Bool
held_row [] = Some false
held_row (word ∷ []) = if bytes_eq word (codes "held") then Some true else None
held_row others = None

-- how many requests a channel serves: none at all may be, but not where the last one's answer is held
abbrev pub after_in : Bool → Option ℕ → Option ℕ
after_in held number = if held then within 1 4096 number else within 0 4096 number

-- NAME after K, or NAME after K held, behind rescind
abbrev pub rescind_row : List (List ℕ) → Option Said
rescind_row (name ∷ word ∷ number ∷ others) =
    if is_name name && bytes_eq word (codes "after") && is_decimal number
    then option_map (λ held. Rescind name (after_in held (in_u64 (number_of number))) held) (held_row others)
    else None
rescind_row others = None

-- NAME, behind close
abbrev pub close_row : List (List ℕ) → Option Said
close_row others = option_map Close (name_alone others)

-- NAME VP, behind modify
abbrev pub modify_row : List (List ℕ) → Option Said
modify_row others = option_map (λ p. Modify p.0 (within 0 63 p.1)) (name_and_number others)

-- nothing, behind phase
abbrev pub phase_row : List (List ℕ) → Option Said
phase_row [] = Some Phase
phase_row others = None

-- the table of lines: what stands behind each key word
abbrev pub row_of : List ℕ → List (List ℕ) → Option Said
row_of key others =
    if bytes_eq key (codes "contact") then contact_row others else
    if bytes_eq key (codes "offer") then offer_row others else
    if bytes_eq key (codes "ring") then ring_row others else
    if bytes_eq key (codes "window") then window_row others else
    if bytes_eq key (codes "beat") then beat_row others else
    if bytes_eq key (codes "down") then down_row others else
    if bytes_eq key (codes "rescind") then rescind_row others else
    if bytes_eq key (codes "close") then close_row others else
    if bytes_eq key (codes "modify") then modify_row others else
    if bytes_eq key (codes "phase") then phase_row others else disk_row key others

-- a word that makes its line a comment, where it is the first
abbrev pub begins_comment : List ℕ → Bool
begins_comment [] = false
begins_comment (c ∷ cs) = c == 35

-- what these words say
abbrev pub said_by : List (List ℕ) → Option Said
said_by [] = Some Nothing
said_by (key ∷ others) = if begins_comment key then Some Nothing else row_of key others

-- 0x20 to 0x7E
abbrev pub is_printable : ℕ → Bool
is_printable c = nat_le 0x20 c && nat_le c 0x7E

-- what a line says, where it has printable bytes alone and its words are a row of the table
abbrev pub said_in : List ℕ → Option Said
said_in line = if list_all is_printable line then said_by (words line) else None
