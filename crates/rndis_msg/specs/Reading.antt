-- What is read of bytes of a type.
use Rattle.std.specs.Prelude.{◌≡◌, ℕ, ◌+◌, List, [], slice_range, slice_index_or, Option, Some, None, Result, Ok, Err, MatchResult}
use Rattle.rndis_msg.specs.Types.{number_of_type, message_type, kept_places, buffer_place}
use Rattle.rndis_msg.specs.Messages.{type_of, values_of, body_of}
use Rattle.rndis_msg.specs.Grammar.{number_at, numbers_at, front_of}
use Rattle.rndis_msg.specs.Faults.{first_fault}
use Rattle.rndis_msg.specs.declared.message_type.MessageType.{MessageType}
use Rattle.rndis_msg.specs.declared.message_type.MessageType.TheVariants.{PacketMsg, InitializeMsg, InitializeCmplt, HaltMsg, QueryMsg, QueryCmplt, SetMsg, SetCmplt, ResetMsg, ResetCmplt, KeepaliveMsg, KeepaliveCmplt}
use Rattle.rndis_msg.specs.declared.message_type.BufferPlace.{BufferPlace}
use Rattle.rndis_msg.specs.declared.fault.RndisFault.{RndisFault}
use Rattle.rndis_msg.specs.declared.fault.RndisFault.TheVariants.{Unknown}
use Rattle.rndis_msg.specs.declared.rndis.Rndis.{Rndis}
use Rattle.rndis_msg.specs.declared.rndis.Rndis.TheVariants.{Packet, Initialize, InitializeComplete, Halt, Query, QueryComplete, Set, SetComplete, Reset, ResetComplete, Keepalive, KeepaliveComplete}

-- the bytes of the buffer, none where there is no buffer
abbrev pub buffer_in : Option BufferPlace → List ℕ → List ℕ
buffer_in None b = []
buffer_in (Some place) b = slice_range b (number_at place.offset b + 8) (number_at place.offset b + 8 + number_at place.length b)

-- the message has this type, and the values and the buffer that stand in the bytes
abbrev pub Reads : MessageType → Rndis → List ℕ → Type 0
Reads t m b = (type_of m ≡ t) × (values_of m ≡ numbers_at (kept_places t) b) × (body_of m ≡ buffer_in (buffer_place t) b)

-- the message that was read, where there is no fault, or the first fault
unfoldable pub Parses : List ℕ → Result Rndis RndisFault → Type 0
Parses b r =
    MatchResult r
    (λ m. (first_fault b ≡ None) × (number_at 0 b ≡ number_of_type (type_of m)) × Reads (type_of m) m (front_of b))
    (λ e. first_fault b ≡ Some e)

-- value i
abbrev pub value : ℕ → List ℕ → ℕ
value i vs = slice_index_or vs i 0

-- the message of a type with these values and this buffer
abbrev pub made : MessageType → List ℕ → List ℕ → Rndis
made PacketMsg vs body = Packet body
made InitializeMsg vs body = Initialize (value 0 vs) (value 1 vs) (value 2 vs) (value 3 vs)
made InitializeCmplt vs body = InitializeComplete (value 0 vs) (value 1 vs) (value 2 vs) (value 3 vs) (value 4 vs) (value 5 vs) (value 6 vs) (value 7 vs) (value 8 vs)
made HaltMsg vs body = Halt (value 0 vs)
made QueryMsg vs body = Query (value 0 vs) (value 1 vs) body
made QueryCmplt vs body = QueryComplete (value 0 vs) (value 1 vs) body
made SetMsg vs body = Set (value 0 vs) (value 1 vs) body
made SetCmplt vs body = SetComplete (value 0 vs) (value 1 vs)
made ResetMsg vs body = Reset
made ResetCmplt vs body = ResetComplete (value 0 vs) (value 1 vs)
made KeepaliveMsg vs body = Keepalive (value 0 vs)
made KeepaliveCmplt vs body = KeepaliveComplete (value 0 vs) (value 1 vs)

-- the fault, or else the message of the type that stands in the bytes; where there is no such type that is a fault
abbrev pub told : Option RndisFault → Option MessageType → List ℕ → Result Rndis RndisFault
told (Some e) t b = Err e
told None (Some t) b = Ok (made t (numbers_at (kept_places t) b) (buffer_in (buffer_place t) b))
told None None b = Err (Unknown (number_at 0 b))

-- the message with which bytes begin, or the first fault
unfoldable pub message_in : List ℕ → Result Rndis RndisFault
message_in b = told (first_fault b) (message_type (number_at 0 b)) (front_of b)
