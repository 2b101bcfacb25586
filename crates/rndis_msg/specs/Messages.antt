-- What a message holds: its type, the values of its fields, and its buffer.
use Rattle.std.specs.Prelude.{ℕ, List, [], ◌∷◌}
use Rattle.rndis_msg.specs.declared.message_type.MessageType.{MessageType}
use Rattle.rndis_msg.specs.declared.message_type.MessageType.TheVariants.{PacketMsg, InitializeMsg, InitializeCmplt, HaltMsg, QueryMsg, QueryCmplt, SetMsg, SetCmplt, ResetMsg, ResetCmplt, KeepaliveMsg, KeepaliveCmplt}
use Rattle.rndis_msg.specs.declared.rndis.Rndis.{Rndis}
use Rattle.rndis_msg.specs.declared.rndis.Rndis.TheVariants.{Packet, Initialize, InitializeComplete, Halt, Query, QueryComplete, Set, SetComplete, Reset, ResetComplete, Keepalive, KeepaliveComplete}

-- which message it is
abbrev pub type_of : Rndis → MessageType
type_of (Packet body) = PacketMsg
type_of (Initialize request_id major minor max_transfer) = InitializeMsg
type_of (InitializeComplete request_id status major minor device_flags medium max_packets max_transfer alignment) = InitializeCmplt
type_of (Halt request_id) = HaltMsg
type_of (Query request_id oid body) = QueryMsg
type_of (QueryComplete request_id status body) = QueryCmplt
type_of (Set request_id oid body) = SetMsg
type_of (SetComplete request_id status) = SetCmplt
type_of Reset = ResetMsg
type_of (ResetComplete status addressing_reset) = ResetCmplt
type_of (Keepalive request_id) = KeepaliveMsg
type_of (KeepaliveComplete request_id status) = KeepaliveCmplt

-- the values of the fields that are kept, in the order of the wire
abbrev pub values_of : Rndis → List ℕ
values_of (Packet body) = []
values_of (Initialize request_id major minor max_transfer) = request_id ∷ major ∷ minor ∷ max_transfer ∷ []
values_of (InitializeComplete request_id status major minor device_flags medium max_packets max_transfer alignment) = request_id ∷ status ∷ major ∷ minor ∷ device_flags ∷ medium ∷ max_packets ∷ max_transfer ∷ alignment ∷ []
values_of (Halt request_id) = request_id ∷ []
values_of (Query request_id oid body) = request_id ∷ oid ∷ []
values_of (QueryComplete request_id status body) = request_id ∷ status ∷ []
values_of (Set request_id oid body) = request_id ∷ oid ∷ []
values_of (SetComplete request_id status) = request_id ∷ status ∷ []
values_of Reset = []
values_of (ResetComplete status addressing_reset) = status ∷ addressing_reset ∷ []
values_of (Keepalive request_id) = request_id ∷ []
values_of (KeepaliveComplete request_id status) = request_id ∷ status ∷ []

-- the buffer; a message without one has no bytes in it
abbrev pub body_of : Rndis → List ℕ
body_of (Packet body) = body
body_of (Query request_id oid body) = body
body_of (QueryComplete request_id status body) = body
body_of (Set request_id oid body) = body
body_of m = []
