-- The rows of the table of lines, as they are told.
use Rattle.std.specs.Prelude.{ℕ, List, [], ◌∷◌, Option, Some, None, codes, bytes_eq, if◌then◌else◌}
use Rattle.std.specs.Option.{option_or}
use Rattle.kvp_lines.specs.Forms as pair
use Rattle.kvp_lines.specs.declared.form.PairForm.{PairForm}
use Rattle.script_explain.specs.declared.form.Form.{Form}
use Rattle.script_explain.specs.declared.form.Form.TheVariants.{End, Name, Kind, Number, Version, Byte, Bytes, Oid, Address, After, Held, OfPair}
use Rattle.script_explain.specs.declared.row.Row.{Row}
use Rattle.script_explain.specs.declared.row.Row.TheVariants.{Contact, Offer, OfferDisk, OfferNet, Bad, Ring, Window, Ready, Inquiry, Capacity, LongCapacity, Flush, Read, Write, Beat, Down, Query, Set, Keep, Reset, Frame, Pair, Rescind, Close, Modify, Phase}

-- how a row is written, with its ranges
abbrev pub told : Row → List ℕ
told Contact = codes "contact GUEST HOST: each is 2.4, 3.0, 4.0, 4.1, 5.0, 5.1, 5.2 or 5.3"
told Offer = codes "offer hb NAME, offer shutdown NAME, offer kvp NAME, offer disk NAME BLOCKS SUBS or offer net NAME MAC STATION"
told OfferDisk = codes "offer disk NAME BLOCKS SUBS: BLOCKS is 1 to 1099511627776, SUBS 0 to 3"
told OfferNet = codes "offer net NAME MAC STATION: both addresses have 12 hexadecimal digits"
told Bad = codes "bad NAME LBA: LBA is below the disk's number of blocks"
told Ring = codes "ring NAME PAGES: PAGES is 1 to 16"
told Window = codes "window NAME N: N is 1 to 64"
told Ready = codes "ready NAME"
told Inquiry = codes "inquiry NAME"
told Capacity = codes "capacity NAME"
told LongCapacity = codes "capacity16 NAME"
told Flush = codes "flush NAME"
told Read = codes "read NAME LBA COUNT: LBA is 0 to 18446744073709551615, COUNT 0 to 8"
told Write = codes "write NAME LBA COUNT HH: LBA is 0 to 18446744073709551615, COUNT 0 to 8, HH two hexadecimal digits"
told Beat = codes "beat NAME SEQ: SEQ is 0 to 18446744073709551615"
told Down = codes "down NAME FLAGS: FLAGS is 0 to 4294967295"
told Query = codes "query NAME OID: OID is 0x and 8 hexadecimal digits"
told Set = codes "set NAME OID HEX: OID is 0x and 8 hexadecimal digits, HEX 1 to 64 bytes"
told Keep = codes "keep NAME"
told Reset = codes "reset NAME"
told Frame = codes "frame NAME HEX: HEX is 14 to 1514 bytes"
told (Pair form) = pair.told form
told Rescind = codes "rescind NAME after K, or rescind NAME after K held: K is 0 to 4096, and at least 1 before held"
told Close = codes "close NAME"
told Modify = codes "modify NAME VP: VP is 0 to 63"
told Phase = codes "phase"

-- behind the key word of a key-value service, the name and what its own table says
abbrev pub pair_forms : PairForm → List Form
pair_forms form = let words = pair.words_of form in Name ∷ OfPair words.0 ∷ OfPair words.1 ∷ OfPair words.2 ∷ OfPair words.3 ∷ []

-- what the words behind its first may be
abbrev pub forms : Row → List Form
forms Contact = Version ∷ Version ∷ End ∷ End ∷ End ∷ []
forms Offer = Kind ∷ Name ∷ End ∷ End ∷ End ∷ []
forms OfferDisk = Kind ∷ Name ∷ Number 1 1099511627776 ∷ Number 0 3 ∷ End ∷ []
forms OfferNet = Kind ∷ Name ∷ Address ∷ Address ∷ End ∷ []
forms Bad = Name ∷ Number 0 0xffffffffffffffff ∷ End ∷ End ∷ End ∷ []
forms Ring = Name ∷ Number 1 16 ∷ End ∷ End ∷ End ∷ []
forms Window = Name ∷ Number 1 64 ∷ End ∷ End ∷ End ∷ []
forms Ready = Name ∷ End ∷ End ∷ End ∷ End ∷ []
forms Inquiry = Name ∷ End ∷ End ∷ End ∷ End ∷ []
forms Capacity = Name ∷ End ∷ End ∷ End ∷ End ∷ []
forms LongCapacity = Name ∷ End ∷ End ∷ End ∷ End ∷ []
forms Flush = Name ∷ End ∷ End ∷ End ∷ End ∷ []
forms Read = Name ∷ Number 0 0xffffffffffffffff ∷ Number 0 8 ∷ End ∷ End ∷ []
forms Write = Name ∷ Number 0 0xffffffffffffffff ∷ Number 0 8 ∷ Byte ∷ End ∷ []
forms Beat = Name ∷ Number 0 0xffffffffffffffff ∷ End ∷ End ∷ End ∷ []
forms Down = Name ∷ Number 0 4294967295 ∷ End ∷ End ∷ End ∷ []
forms Query = Name ∷ Oid ∷ End ∷ End ∷ End ∷ []
forms Set = Name ∷ Oid ∷ Bytes 1 64 ∷ End ∷ End ∷ []
forms Keep = Name ∷ End ∷ End ∷ End ∷ End ∷ []
forms Reset = Name ∷ End ∷ End ∷ End ∷ End ∷ []
forms Frame = Name ∷ Bytes 14 1514 ∷ End ∷ End ∷ End ∷ []
forms (Pair form) = pair_forms form
forms Rescind = Name ∷ After ∷ Number 0 4096 ∷ Held ∷ End ∷ []
forms Close = Name ∷ End ∷ End ∷ End ∷ End ∷ []
forms Modify = Name ∷ Number 0 63 ∷ End ∷ End ∷ End ∷ []
forms Phase = End ∷ End ∷ End ∷ End ∷ End ∷ []

-- an offer, by its second word
abbrev pub offer_row : List ℕ → Row
offer_row kind = if bytes_eq kind (codes "disk") then OfferDisk else if bytes_eq kind (codes "net") then OfferNet else Offer

-- settings, but for offers
abbrev pub settings_row : List ℕ → Option Row
settings_row key =
    if bytes_eq key (codes "contact") then Some Contact else
    if bytes_eq key (codes "bad") then Some Bad else
    if bytes_eq key (codes "ring") then Some Ring else
    if bytes_eq key (codes "window") then Some Window else None

-- what a disk is asked
abbrev pub disk_row : List ℕ → Option Row
disk_row key =
    if bytes_eq key (codes "ready") then Some Ready else
    if bytes_eq key (codes "inquiry") then Some Inquiry else
    if bytes_eq key (codes "capacity") then Some Capacity else
    if bytes_eq key (codes "capacity16") then Some LongCapacity else
    if bytes_eq key (codes "flush") then Some Flush else
    if bytes_eq key (codes "read") then Some Read else
    if bytes_eq key (codes "write") then Some Write else None

-- what the other devices are asked
abbrev pub device_row : List ℕ → Option Row
device_row key =
    if bytes_eq key (codes "beat") then Some Beat else
    if bytes_eq key (codes "down") then Some Down else
    if bytes_eq key (codes "query") then Some Query else
    if bytes_eq key (codes "set") then Some Set else
    if bytes_eq key (codes "keep") then Some Keep else
    if bytes_eq key (codes "reset") then Some Reset else
    if bytes_eq key (codes "frame") then Some Frame else None

-- what ends or moves a channel, and a phase
abbrev pub ending_row : List ℕ → Option Row
ending_row key =
    if bytes_eq key (codes "rescind") then Some Rescind else
    if bytes_eq key (codes "close") then Some Close else
    if bytes_eq key (codes "modify") then Some Modify else
    if bytes_eq key (codes "phase") then Some Phase else None

-- the row that begins with a word; of an offer the second word tells which, and of what a key-value service is asked the third
abbrev pub row_of : List ℕ → List ℕ → List ℕ → Option Row
row_of key second third =
    if bytes_eq key (codes "offer") then Some (offer_row second) else
    if bytes_eq key (codes "kvp") then Some (Pair (pair.form_of third)) else option_or (settings_row key) (option_or (disk_row key) (option_or (device_row key) (ending_row key)))
