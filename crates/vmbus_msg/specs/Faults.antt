-- The first fault of bytes that are no message.
use Rattle.std.specs.Prelude.{ℕ, ◌+◌, ◌*◌, ◌/◌, ◌%◌, min, List, [], ◌∷◌, length, slice_range, Option, Some, None, nat_lt, ◌==◌, if◌then◌else◌}
use Rattle.wire_table.specs.Little.{number_of}
use Rattle.wire_table.specs.Rows.{Kind, total}
use Rattle.vmbus_msg.specs.Grammar.{kinds_of}
use Rattle.vmbus_msg.specs.Pages.{pages_of, header_frames}
use Rattle.vmbus_msg.specs.declared.field_name.FieldName.TheVariants.{RangeBuflen, Rangecount}
use Rattle.vmbus_msg.specs.declared.fault.MsgFault.{MsgFault}
use Rattle.vmbus_msg.specs.declared.fault.MsgFault.TheVariants.{Short, Unknown, Long, Field}

-- the number that stands in these bytes
abbrev pub value_at : List ℕ → ℕ → ℕ → ℕ
value_at bytes from to = number_of (slice_range bytes from to)

-- the fault where there is one, or else the other
abbrev pub first_of : Option MsgFault → Option MsgFault → Option MsgFault
first_of (Some e) other = Some e
first_of None other = other

-- a length as a fault tells it: it holds 32 bits, so more than it can hold is told as the greatest
abbrev pub told : ℕ → ℕ
told n = min n 4294967295

-- fewer bytes than are needed
abbrev pub short : ℕ → ℕ → Option MsgFault
short need have = if nat_lt have need then Some (Short (told have) need) else None

-- more bytes than there may be
abbrev pub long : ℕ → ℕ → Option MsgFault
long most have = if nat_lt most have then Some (Long (told have)) else None

-- a message of one length
abbrev pub fixed : ℕ → ℕ → Option MsgFault
fixed need have = first_of (short need have) (long need have)

-- the body of a page list: 16 bytes and 1 to 28 frames of 8 bytes
abbrev pub body : ℕ → Option MsgFault
body have = first_of (short 24 have) (first_of (long 240 have) (if have % 8 == 0 then None else Some (Short (told have) (have / 8 * 8 + 8))))

-- the fields of a page list's header: a range of whole pages and at least one, and one range
abbrev pub header_fields : ℕ → ℕ → Option MsgFault
header_fields range_buflen rangecount =
    if nat_lt (pages_of range_buflen) 1 then Some (Field RangeBuflen range_buflen) else
    if range_buflen == 8 + 8 * pages_of range_buflen then (if rangecount == 1 then None else Some (Field Rangecount rangecount)) else
    Some (Field RangeBuflen range_buflen)

-- the header of a page list: 28 bytes, and as many frames as its range says and it holds
abbrev pub header : List ℕ → Option MsgFault
header b =
    first_of (short 28 (length b)) (first_of (fixed (28 + 8 * header_frames (value_at b 16 18)) (length b)) (header_fields (value_at b 16 18) (value_at b 18 20)))

-- a message of one length, or none of this type
abbrev pub plain : ℕ → List Kind → ℕ → Option MsgFault
plain kind [] have = Some (Unknown kind)
plain kind (k ∷ ks) have = fixed (4 + total (k ∷ ks)) have

-- the first fault of bytes of this type
abbrev pub fault_for : ℕ → List ℕ → Option MsgFault
fault_for kind b = if kind == 8 then header b else if kind == 9 then body (length b) else plain kind (kinds_of kind) (length b)

-- the first fault of bytes: too few for a type, or those of the type
unfoldable pub fault_of : List ℕ → Option MsgFault
fault_of b = first_of (short 8 (length b)) (fault_for (value_at b 0 4) b)
