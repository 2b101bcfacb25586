-- What the packets of a network's channel say: the guest asks the adapter of the host. Remote NDIS messages stand in data pages of the channel, which are the network's two buffers.
--
-- A message of the guest stands in the section of the send buffer, a page, that goes with the id of its packet, and an in-band packet names the section. What comes back of the adapter goes in a packet of its own, before the
-- completion of its request: it names the page of the receive buffer that goes with the host's id. A completion brings the page back, and nothing of it is read
use Rattle.std.specs.Prelude.{◌≡◌, ℕ, ◌-◌, ◌*◌, ◌%◌, ◌^◌, ◌==◌, Bool, true, false, ◌&&◌, ◌||◌, is_some, min, List, [], ◌∷◌, length, slice_range, Option, Some, None, Result, Ok, Err, if◌then◌else◌}
use Rattle.wire_table.specs.Little.{number_of}
use Rattle.vm_page.specs.Words.{words_of, bytes_in}
use Rattle.rndis_msg.specs.declared.rndis.Rndis.{Rndis}
use Rattle.rndis_msg.specs.declared.rndis.Rndis.TheVariants.{Initialize as InitializeMessage}
use Rattle.rndis_msg.specs.declared.fault.RndisFault.{RndisFault}
use Rattle.rndis_msg.specs.Grammar.{rndis_bytes}
use Rattle.rndis_msg.specs.Reading.{message_in}
use Rattle.net_dev.specs.declared.nvsp.Nvsp.TheVariants.{RndisPacket}
use Rattle.net_dev.specs.declared.reply.NetReply.{NetReply}
use Rattle.net_dev.specs.Nvsp.{nvsp_bytes}
use Rattle.net_dev.specs.Station.{initialize_reply}
use Rattle.pkt_desc.specs.Packets.{id_of, kind_of, inband_packet}
use Rattle.pkt_desc.specs.Built.{xfer_packet}
use Rattle.pkt_desc.specs.Lending.{lent_of}
use Rattle.page_kept.specs.declared.item.Item.{Item}
use Rattle.page_kept.specs.Items.{item_of}
use Rattle.channel_model.specs.WireFormat.{WireFormat, Back}
use Rattle.device_packets.specs.Packets.{is_completion, content_of}
use Rattle.device_wire.specs.declared.want.Want.{Want}
use Rattle.device_wire.specs.declared.want.Want.TheVariants.{Step, Request}
use Rattle.device_wire.specs.Codecs.{alone}
use Rattle.net_format.specs.Nets.{has_nvsp, is_init, tells_receive, tells_send, carries_rndis, brings_rndis, asked_by, channel_type, net_done, init_done, receive_done, send_done, net_fits, with_id, can_ask, request_id_of, net_init, net_ndis, net_receive, net_send, initialize_of, ok_of}
use Rattle.device_wire.specs.declared.buffer_lists.BufferLists.{BufferLists}
use Rattle.device_wire.specs.WireModels.{WireModel}
use Rattle.net_format.specs.declared.net_step.NetStep.{NetStep}
use Rattle.net_format.specs.declared.net_step.NetStep.TheVariants.{Init, Version, ReceiveList, SendList, Initialize}

-- the Remote NDIS message in a packet's page words, or why there is none: a packet that came without its page has none
unfoldable pub rndis_in : Item → Result Rndis RndisFault
rndis_in i = message_in (bytes_in i.words)

-- these have an answer
unfoldable pub net_waits : Item → Bool
net_waits i = is_init i.packet || (tells_receive i.packet || (tells_send i.packet || carries_rndis i.packet))

unfoldable pub net_read : Item → Option Rndis
net_read i = if carries_rndis i.packet then asked_by (rndis_in i) else None

-- The section of an id: that of id 1 is section 0
abbrev pub section_of : ℕ → ℕ
section_of id = (id - 1) % 2 ^ 32

-- The packet with which a message of so many bytes goes: it names the section of its id, and asks for a completion
unfoldable pub section_packet : ℕ → ℕ → ℕ → List ℕ
section_packet id channel n = inband_packet id 1 (nvsp_bytes (RndisPacket channel (section_of id) n))

unfoldable pub rndis_sent : ℕ → Rndis → Item
rndis_sent id m = item_of (section_packet id (channel_type m) (length (rndis_bytes m))) (words_of (rndis_bytes m))

-- The packet with which one of so many bytes comes back: it names the part of the receive buffer that begins the page of its id, and no section. No part has more than a page
unfoldable pub transfer_packet : ℕ → ℕ → ℕ → List ℕ
transfer_packet own channel n = xfer_packet own 0xcafe ((min n 4096, 4096 * (own - 1)) ∷ []) (nvsp_bytes (RndisPacket channel 0xffff_ffff 0))

unfoldable pub rndis_back : ℕ → Rndis → Item
rndis_back own m = item_of (transfer_packet own (channel_type m) (length (rndis_bytes m))) (words_of (rndis_bytes m))

-- a packet without page words, that goes back alone
abbrev pub bare_alone : List ℕ → Back Item
bare_alone p = alone (item_of p [])

-- what goes back for a message that asks nothing of the adapter: an initialize is completed as the station would, and bytes that are no message aren't served
abbrev pub fixed_by : ℕ → Result Rndis RndisFault → Option (Back Item)
fixed_by id (Ok (InitializeMessage request_id major minor max_transfer)) = Some (record { message = Some (λ own. rndis_back own (initialize_reply request_id)); answer = item_of (net_done id 1) [] })
fixed_by id (Ok m) = None
fixed_by id (Err fault) = Some (bare_alone (net_done id 2))

-- and for any packet
unfoldable pub net_fixed : Item → Option (Back Item)
net_fixed i =
    if is_init i.packet then Some (bare_alone (init_done i.packet))
    else if tells_receive i.packet then Some (bare_alone (receive_done (id_of i.packet)))
    else if tells_send i.packet then Some (bare_alone (send_done (id_of i.packet)))
    else if carries_rndis i.packet then fixed_by (id_of i.packet) (rndis_in i) else None

-- what goes back with the adapter's reply: the message that comes back, if there is one, and then the completion
abbrev pub message_of : Option Rndis → Option (ℕ → Item)
message_of None = None
message_of (Some m) = Some (λ own. rndis_back own m)

abbrev pub net_gives : Item → NetReply → Back Item
net_gives i r = record { message = message_of r.back; answer = item_of (net_done (id_of i.packet) r.status) [] }

-- what completes what came back: 1 where it is a message in a page of the receive buffer, and 2 where it names none
unfoldable pub taken_status : List ℕ → ℕ
taken_status p = if brings_rndis p && is_some (lent_of p) then 1 else 2

unfoldable pub net_ack : Item → Item
net_ack i = item_of (net_done (id_of i.packet) (taken_status i.packet)) []

-- the packets of the start-up: an init, an NDIS version, the two page lists, whose handles have 4 bytes, and an initialize
abbrev pub net_start : ℕ → NetStep → Item
net_start id Init = item_of (net_init id) []
net_start id Version = item_of net_ndis []
net_start id (ReceiveList handle) = item_of (net_receive id (handle % 2 ^ 32)) []
net_start id (SendList handle) = item_of (net_send id (handle % 2 ^ 32)) []
net_start id Initialize = rndis_sent id (initialize_of id)

-- the packet that asks the adapter; one that can't be asked counts as the start-up's first step
abbrev pub net_encode : ℕ → Want NetStep Rndis → Item
net_encode id (Step s) = net_start id s
net_encode id (Request m) = if can_ask m then rndis_sent id (with_id (request_id_of id) m) else item_of (net_init id) []

-- all but the NDIS version have an answer, and all that can be asked asks the adapter
abbrev pub step_answered : NetStep → Bool
step_answered Version = false
step_answered s = true

abbrev pub net_has_answer : Want NetStep Rndis → Bool
net_has_answer (Step s) = step_answered s
net_has_answer (Request m) = true

abbrev pub asks_adapter : Want NetStep Rndis → Bool
asks_adapter (Step s) = false
asks_adapter (Request m) = can_ask m

-- what a completion says, with the message that came just before it, if one did
abbrev pub back_in : Option Item → Option Rndis
back_in None = None
back_in (Some j) = if brings_rndis j.packet then ok_of (rndis_in j) else None

unfoldable pub net_said : Option Item → Item → Option NetReply
net_said before i = if is_completion i.packet && has_nvsp 108 i.packet then Some (record { status = number_of (slice_range (content_of i.packet) 4 8); back = back_in before }) else None

abbrev pub net_result : Want NetStep Rndis → Option Item → Item → Option NetReply
net_result a before i = if asks_adapter a then net_said before i else None

-- the channel of a network. Its packets' types tell requests, messages and completions apart
abbrev pub net_format : WireFormat Item (Want NetStep Rndis) Rndis NetReply
net_format = record {
  id_of = λ i. id_of i.packet;
  is_request = λ i. kind_of i.packet == 6;
  waits = net_waits;
  is_ack = λ i. kind_of i.packet == 11;
  is_answer = λ i. kind_of i.packet == 11;
  is_message = λ i. kind_of i.packet == 7;
  ack = net_ack;
  encode = net_encode;
  has_answer = net_has_answer;
  read = net_read;
  fixed = net_fixed;
  fits = net_fits;
  gives = net_gives;
  result = net_result;
}

-- A network starts up with an init, an NDIS version, the page list of the receive buffer, that of the send buffer, and an initialize
abbrev pub net_steps : BufferLists → List NetStep
net_steps lists = Init ∷ Version ∷ ReceiveList lists.receive ∷ SendList lists.send ∷ Initialize ∷ []

-- a network on its channel: what comes back of its adapter goes in a message besides, and a message for it has the id of its packet
abbrev pub net_model : WireModel NetStep Rndis NetReply
net_model = record {
  format = net_format;
  besides = true;
  lends = true;
  steps = λ subs lists. net_steps lists;
  answered = step_answered;
  asked_as = λ id m. with_id (request_id_of id) m;
  reply_in = net_said;
}

-- The start-up is an init, an NDIS version, the page list of the receive buffer, that of the send buffer, and an initialize: the two lists go in these packets, under whatever id
pub record TellsLists (lists : BufferLists) : Type 0 where
  pub steps : (subs : ℕ) → net_model.steps subs lists ≡ Init ∷ Version ∷ ReceiveList lists.receive ∷ SendList lists.send ∷ Initialize ∷ []
  pub receive : (id : ℕ) → net_start id (ReceiveList lists.receive) ≡ item_of (net_receive id lists.receive) []
  pub send : (id : ℕ) → net_start id (SendList lists.send) ≡ item_of (net_send id lists.send) []
