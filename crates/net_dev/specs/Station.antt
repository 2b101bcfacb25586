-- The station, as a machine of messages and answers.
use Rattle.std.specs.Prelude.{◌≡◌, ◌≤◌, ◌<◌, nat_lt, IfSome, ℕ, Bool, ◌||◌, ◌&&◌, ◌==◌, nat_eq, nat_le, List, [], ◌++◌, length, drop, replicate, slice_range, Option, Some, None, Result, Ok, Err, if◌then◌else◌}
use Rattle.std.specs.List.{starts_with, AllByRecursion}
use Rattle.wire_table.specs.Little.{number_of, bytes_of}
use Rattle.rndis_msg.specs.declared.rndis.Rndis.{Rndis}
use Rattle.rndis_msg.specs.declared.rndis.Rndis.TheVariants.{Packet, Initialize, InitializeComplete, Halt, Query, QueryComplete, Set, SetComplete, Reset, ResetComplete, Keepalive, KeepaliveComplete}
use Rattle.rndis_msg.specs.declared.fault.RndisFault.{RndisFault}
use Rattle.rndis_msg.specs.Types.{number_of_type}
use Rattle.rndis_msg.specs.Messages.{type_of, body_of}
use Rattle.rndis_msg.specs.Grammar.{InForm}
use Rattle.rndis_msg.specs.declared.message_type.MessageType.{MessageType}
use Rattle.rndis_msg.specs.declared.message_type.MessageType.TheVariants.{PacketMsg, InitializeCmplt, QueryCmplt, SetCmplt, ResetCmplt, KeepaliveCmplt}
use Rattle.net_dev.specs.Objects.{answer_for, object_bytes}
use Rattle.net_dev.specs.declared.objects.Answer.{Answer}
use Rattle.net_dev.specs.declared.objects.Answer.TheVariants.{Objects, Number, Filter, Address}
use Rattle.net_dev.specs.declared.reply.NetReply.{NetReply}
use Rattle.net_dev.specs.declared.station.Station.{Station}

-- the frame goes to this address: it begins with it
abbrev pub goes_to : List ℕ → List ℕ → Bool
goes_to address frame = starts_with nat_eq frame address

-- the station takes frames with an Ethernet header, of 14 bytes, to its address or to all stations
abbrev pub is_addressed : Station → List ℕ → Bool
is_addressed s frame = nat_le 14 (length frame) && (goes_to s.station frame || goes_to (replicate 6 0xff) frame)

-- the frame that comes back: its destination is the old source, its source the station, the rest is the same
abbrev pub turned : Station → List ℕ → List ℕ
turned s frame = slice_range frame 6 12 ++ (s.station ++ drop 12 frame)

-- what comes back of a frame
abbrev pub frame_back : Station → List ℕ → Option Rndis
frame_back s frame = if is_addressed s frame then Some (Packet (turned s frame)) else None

-- the bytes of an object
abbrev pub value_bytes : Station → Answer → List ℕ
value_bytes s Objects = object_bytes
value_bytes s (Number n) = bytes_of 4 n
value_bytes s Filter = bytes_of 4 s.filter
value_bytes s Address = s.mac

-- the answer to a query: the object's bytes, or status 0xc00000bb and no bytes
abbrev pub query_complete : Station → ℕ → Option Answer → Rndis
query_complete s request_id (Some answer) = QueryComplete request_id 0 (value_bytes s answer)
query_complete s request_id None = QueryComplete request_id 0xc000_00bb []

abbrev pub query_reply : Station → ℕ → ℕ → Rndis
query_reply s request_id oid = query_complete s request_id (answer_for oid)

-- the packet filter is set by 4 bytes
abbrev pub sets_filter : ℕ → List ℕ → Bool
sets_filter oid value = (oid == 0x0001_010e) && (length value == 4)

-- the status of a set: the packet filter alone can be set
abbrev pub set_status : ℕ → List ℕ → ℕ
set_status oid value = if oid == 0x0001_010e then (if length value == 4 then 0 else 0xc001_0015) else 0xc000_00bb

-- the packet filter after a set
abbrev pub filter_set : ℕ → ℕ → List ℕ → ℕ
filter_set filter oid value = if sets_filter oid value then number_of value else filter

-- the answer to an initialize: version 1.0, flags 1, medium 0, one packet and 2,048 bytes in a transfer, alignment 0
abbrev pub initialize_reply : ℕ → Rndis
initialize_reply request_id = InitializeComplete request_id 0 1 0 1 0 1 2048 0

-- a message that was served, and what comes back of it
abbrev pub served : Option Rndis → NetReply
served back = record { status = 1; back = back }

-- a message that isn't served
abbrev pub not_served : NetReply
not_served = record { status = 2; back = None }

-- the answer to a message. What a host answers isn't served.
abbrev pub message_reply : Station → Rndis → NetReply
message_reply s (Packet body) = served (frame_back s body)
message_reply s (Initialize request_id major minor max_transfer) = served (Some (initialize_reply request_id))
message_reply s (Halt request_id) = served None
message_reply s (Query request_id oid body) = served (Some (query_reply s request_id oid))
message_reply s (Set request_id oid body) = served (Some (SetComplete request_id (set_status oid body)))
message_reply s Reset = served (Some (ResetComplete 0 0))
message_reply s (Keepalive request_id) = served (Some (KeepaliveComplete request_id 0))
message_reply s m = not_served

-- the station's answer to what was read: bytes that are no message aren't served
abbrev pub station_reply : Station → Result Rndis RndisFault → NetReply
station_reply s (Ok m) = message_reply s m
station_reply s (Err fault) = not_served

-- the packet filter after what was read
abbrev pub filter_after : ℕ → Result Rndis RndisFault → ℕ
filter_after filter (Ok (Set request_id oid body)) = filter_set filter oid body
filter_after filter (Ok Reset) = 0
filter_after filter _ = filter

-- the station with a packet filter
abbrev pub with_filter : Station → ℕ → Station
with_filter s filter = record { mac = s.mac; station = s.station; filter = filter }

-- the station after what was read: its addresses stay
abbrev pub station_after : Station → Result Rndis RndisFault → Station
station_after s q = with_filter s (filter_after s.filter q)

-- a station with the same addresses that nothing was asked yet
abbrev pub unfiltered : Station → Station
unfiltered s = with_filter s 0

-- the type of the message that comes back of a message, where one may: a frame, or the completion of a request
abbrev pub type_back : Rndis → Option MessageType
type_back (Packet body) = Some PacketMsg
type_back (Initialize request_id major minor max_transfer) = Some InitializeCmplt
type_back (Query request_id oid body) = Some QueryCmplt
type_back (Set request_id oid body) = Some SetCmplt
type_back Reset = Some ResetCmplt
type_back (Keepalive request_id) = Some KeepaliveCmplt
type_back m = None

-- how many bytes its buffer has at most: a frame comes back as long as it was, and the list of ten objects is the longest value
abbrev pub most_back : Rndis → ℕ
most_back (Packet body) = length body
most_back (Query request_id oid body) = 40
most_back m = 0

-- a message that may come back of another. It is in form, with a buffer of bytes, so it can be written
pub record IsBack (q m : Rndis) : Type 0 where
  pub kind : Some (type_of m) ≡ type_back q
  pub most : length (body_of m) ≤ most_back q
  pub form : InForm m
  pub bytes : AllByRecursion (λ b. b < 256) (body_of m)

-- the status of an answer: a type above 0x80000000 is what a host sends, and isn't served
abbrev pub status_for : Rndis → ℕ
status_for m = if nat_lt 0x8000_0000 (number_of_type (type_of m)) then 2 else 1

-- what each answer keeps to, whatever the station's addresses and filter: its status, and the type and the size of what comes back
abbrev pub Keeps : Result Rndis RndisFault → NetReply → Type 0
Keeps (Ok m) r = (r.status ≡ status_for m) × IfSome r.back (IsBack m)
Keeps (Err fault) r = r ≡ not_served
