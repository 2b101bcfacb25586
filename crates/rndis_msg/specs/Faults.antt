-- Why bytes don't begin with a message: seven rules, of which the first that applies is told.
use Rattle.std.specs.Prelude.{ℕ, ◌+◌, ◌&&◌, ◌||◌, nat_lt, List, length, Option, Some, None, if◌then◌else◌}
use Rattle.rndis_msg.specs.Types.{message_type, fixed_part, buffer_place}
use Rattle.rndis_msg.specs.Grammar.{number_at, front_of}
use Rattle.rndis_msg.specs.declared.message_type.MessageType.{MessageType}
use Rattle.rndis_msg.specs.declared.message_type.BufferPlace.{BufferPlace}
use Rattle.rndis_msg.specs.declared.field_name.FieldName.TheVariants.{Offset, Length}
use Rattle.rndis_msg.specs.declared.fault.RndisFault.{RndisFault}
use Rattle.rndis_msg.specs.declared.fault.RndisFault.TheVariants.{Short, Unknown, Long, Field}

-- the fault where there is one, or else the other
abbrev pub first_of : Option RndisFault → Option RndisFault → Option RndisFault
first_of (Some e) other = Some e
first_of None other = other

-- 1. there is no type and no length
abbrev pub no_header : List ℕ → Option RndisFault
no_header b = if nat_lt (length b) 8 then Some (Short (length b) 8) else None

-- 3. the length is below the fixed part
abbrev pub below_fixed : MessageType → List ℕ → Option RndisFault
below_fixed t b = if nat_lt (number_at 4 b) (fixed_part t) then Some (Short (number_at 4 b) (fixed_part t)) else None

-- 4. there are fewer bytes than the length
abbrev pub cut_short : List ℕ → Option RndisFault
cut_short b = if nat_lt (length b) (number_at 4 b) then Some (Short (length b) (number_at 4 b)) else None

-- 5. the length is above the fixed part, and there is no buffer
abbrev pub above_fixed : Option BufferPlace → MessageType → List ℕ → Option RndisFault
above_fixed None t b = if nat_lt (fixed_part t) (number_at 4 b) then Some (Long (number_at 4 b)) else None
above_fixed (Some place) t b = None

-- 6. a buffer that isn't empty begins before the end of the fixed part
abbrev pub begins_early : Option BufferPlace → MessageType → List ℕ → Option RndisFault
begins_early None t b = None
begins_early (Some place) t b =
    if nat_lt 0 (number_at place.length b) && nat_lt (number_at place.offset b + 8) (fixed_part t)
    then Some (Field Offset (number_at place.offset b))
    else None

-- 7. the buffer ends past the message, or is longer than a frame
abbrev pub ends_late : Option BufferPlace → List ℕ → Option RndisFault
ends_late None b = None
ends_late (Some place) b =
    if nat_lt (length b) (number_at place.offset b + 8 + number_at place.length b) || nat_lt 1514 (number_at place.length b)
    then Some (Field Length (number_at place.length b))
    else None

-- what is wrong with the length, by rules 3 to 5
abbrev pub size_fault : MessageType → List ℕ → Option RndisFault
size_fault t b = first_of (below_fixed t b) (first_of (cut_short b) (above_fixed (buffer_place t) t b))

-- what is wrong with the buffer of a whole message, by rules 6 and 7
abbrev pub buffer_fault : MessageType → List ℕ → Option RndisFault
buffer_fault t b = first_of (begins_early (buffer_place t) t b) (ends_late (buffer_place t) b)

-- 2. there is no such type; or else what is wrong with a message of the type
abbrev pub typed_fault : Option MessageType → List ℕ → Option RndisFault
typed_fault None b = Some (Unknown (number_at 0 b))
typed_fault (Some t) b = first_of (size_fault t b) (buffer_fault t (front_of b))

-- the first fault of bytes
unfoldable pub first_fault : List ℕ → Option RndisFault
first_fault b = first_of (no_header b) (typed_fault (message_type (number_at 0 b)) b)
