-- Network messages in the packets of a network's channel, and what an adapter may be asked and reply.
--
-- A network message of 40 bytes is all that a packet carries. Where it says that a Remote NDIS message goes along, that stands in a data page of the channel
use Rattle.std.specs.Prelude.{ℕ, ◌≡◌, ◌%◌, ◌^◌, ◌==◌, Bool, true, false, ◌&&◌, ◌||◌, nat_le, nat_lt, List, length, slice_range, Option, Some, None, Result, Ok, Err, if◌then◌else◌}
use Rattle.std.specs.List.{list_all}
use Rattle.wire_table.specs.Little.{number_of}
use Rattle.rndis_msg.specs.declared.rndis.Rndis.{Rndis}
use Rattle.rndis_msg.specs.declared.rndis.Rndis.TheVariants.{Packet, Initialize, Query, Set, Reset, Keepalive}
use Rattle.rndis_msg.specs.declared.fault.RndisFault.{RndisFault}
use Rattle.rndis_msg.specs.Messages.{values_of, body_of}
use Rattle.net_dev.specs.declared.nvsp.Nvsp.{Nvsp}
use Rattle.net_dev.specs.declared.nvsp.Nvsp.TheVariants.{Init, InitComplete, NdisVersion, ReceiveBuffer, ReceiveBufferComplete, SendBuffer, SendBufferComplete, RndisPacketComplete}
use Rattle.net_dev.specs.declared.reply.NetReply.{NetReply}
use Rattle.net_dev.specs.Nvsp.{nvsp_bytes, type_in}
use Rattle.pkt_desc.specs.Packets.{id_of, inband_packet, completion_packet}
use Rattle.device_packets.specs.Packets.{is_of, is_inband, content_of}

-- a packet's bytes begin with a network message of this type
unfoldable pub has_nvsp : ℕ → List ℕ → Bool
has_nvsp kind p = nat_le 40 (length (content_of p)) && (type_in (content_of p) == kind)

-- of the guest's packets: an init, one that tells the page list of the receive buffer, one that tells that of the send buffer, and one with which a Remote NDIS
-- message goes
unfoldable pub is_init : List ℕ → Bool
is_init p = is_inband p && has_nvsp 1 p

unfoldable pub tells_receive : List ℕ → Bool
tells_receive p = is_inband p && has_nvsp 101 p

unfoldable pub tells_send : List ℕ → Bool
tells_send p = is_inband p && has_nvsp 104 p

unfoldable pub carries_rndis : List ℕ → Bool
carries_rndis p = is_inband p && has_nvsp 107 p

-- of the host's packets: one with which a Remote NDIS message comes back. It names a part of the receive buffer
unfoldable pub is_transfer : List ℕ → Bool
is_transfer p = is_of 7 p

unfoldable pub brings_rndis : List ℕ → Bool
brings_rndis p = is_transfer p && has_nvsp 107 p

-- the least and the greatest version of an init
abbrev pub least_in : List ℕ → ℕ
least_in p = number_of (slice_range (content_of p) 4 8)

abbrev pub greatest_in : List ℕ → ℕ
greatest_in p = number_of (slice_range (content_of p) 8 12)

-- what the adapter is asked: any message but an initialize, whose answer is fixed
abbrev pub asked_by : Result Rndis RndisFault → Option Rndis
asked_by (Ok (Initialize request_id major minor max_transfer)) = None
asked_by (Ok m) = Some m
asked_by (Err fault) = None

-- a frame goes on the data channel, and any other message on the control channel
abbrev pub channel_type : Rndis → ℕ
channel_type (Packet body) = 0
channel_type m = 1

-- what completes a message: 1 is success, 2 failure
unfoldable pub net_done : ℕ → ℕ → List ℕ
net_done id status = completion_packet id (nvsp_bytes (RndisPacketComplete status))

-- The answer to an init with these least and greatest versions: the greatest one, where it is one of four and not below the least. Otherwise none is agreed on
abbrev pub is_version : ℕ → Bool
is_version v = (v == 2) || (v == 0x3_0002) || (v == 0x4_0000) || (v == 0x5_0000)

abbrev pub init_answer : ℕ → ℕ → Nvsp
init_answer min max = if is_version max && nat_le min max then InitComplete max 1 1 else InitComplete 0 0 2

unfoldable pub init_done : List ℕ → List ℕ
init_done p = completion_packet (id_of p) (nvsp_bytes (init_answer (least_in p) (greatest_in p)))

-- the receive buffer is one section of 64 parts of a page each, and a section of the send buffer is a page
unfoldable pub receive_done : ℕ → List ℕ
receive_done id = completion_packet id (nvsp_bytes (ReceiveBufferComplete 1 1 0 4096 64 262144))

unfoldable pub send_done : ℕ → List ℕ
send_done id = completion_packet id (nvsp_bytes (SendBufferComplete 1 4096))

-- a message whose fields fit and whose buffer is bytes, of at most a frame
unfoldable pub in_form : Rndis → Bool
in_form m = list_all (λ v. nat_lt v (2 ^ 32)) (values_of m) && (nat_le (length (body_of m)) 1514 && list_all (λ b. nat_lt b 256) (body_of m))

-- the adapter may reply so: what comes back is in form, and the status fits
abbrev pub back_in_form : Option Rndis → Bool
back_in_form None = true
back_in_form (Some m) = in_form m

unfoldable pub net_fits : Rndis → NetReply → Bool
net_fits q r = nat_lt r.status (2 ^ 32) && back_in_form r.back

-- the same message with this request id, where it has one
abbrev pub with_id : ℕ → Rndis → Rndis
with_id id (Query request_id oid body) = Query id oid body
with_id id (Set request_id oid body) = Set id oid body
with_id id (Keepalive request_id) = Keepalive id
with_id id m = m

-- the messages that can be asked: a frame, a query, a set, a reset and a keepalive, in form
abbrev pub is_request_type : Rndis → Bool
is_request_type (Packet body) = true
is_request_type (Query request_id oid body) = true
is_request_type (Set request_id oid body) = true
is_request_type Reset = true
is_request_type (Keepalive request_id) = true
is_request_type m = false

unfoldable pub can_ask : Rndis → Bool
can_ask m = is_request_type m && in_form m

-- the request id of a packet's message: the id of the packet, in 4 bytes
abbrev pub request_id_of : ℕ → ℕ
request_id_of id = id % 2 ^ 32

-- the packets of the start-up without an initialize: an init; an NDIS version, which nobody answers and which goes with id 0; and those that tell the page lists
-- of the two buffers by their handles. The receive buffer's id is 0xcafe, and the send buffer's 0
unfoldable pub net_init : ℕ → List ℕ
net_init id = inband_packet id 1 (nvsp_bytes (Init 0x5_0000 0x5_0000))

unfoldable pub net_ndis : List ℕ
net_ndis = inband_packet 0 0 (nvsp_bytes (NdisVersion 6 30))

unfoldable pub net_receive : ℕ → ℕ → List ℕ
net_receive id gpadl = inband_packet id 1 (nvsp_bytes (ReceiveBuffer gpadl 0xcafe))

unfoldable pub net_send : ℕ → ℕ → List ℕ
net_send id gpadl = inband_packet id 1 (nvsp_bytes (SendBuffer gpadl 0))

-- the initialize of the start-up
abbrev pub initialize_of : ℕ → Rndis
initialize_of id = Initialize (request_id_of id) 1 0 16384

-- the message that bytes are
abbrev pub ok_of : Result Rndis RndisFault → Option Rndis
ok_of (Ok m) = Some m
ok_of (Err fault) = None

-- a message that can be asked of an adapter
abbrev pub IsNetAsk : Rndis → Type 0
IsNetAsk message = can_ask message ≡ true
