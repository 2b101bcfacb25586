-- What the packets of a key-value channel say: the host asks the guest.
use Rattle.std.specs.Prelude.{ℕ, ◌^◌, ◌==◌, Bool, true, false, ◌&&◌, nat_le, nat_lt, is_none, List, [], ◌∷◌, length, Option, Some, None, if◌then◌else◌}
use Rattle.std.specs.List.{list_all}
use Rattle.contact.specs.declared.kind.DeviceKind.TheVariants.{Kvp as KindKvp}
use Rattle.util_ic.specs.Messages.{type_of}
use Rattle.util_ic.specs.Answers.{utility_answer}
use Rattle.util_ic.specs.Packets.{negotiate_packet}
use Rattle.kvp_ic.specs.declared.message.Kvp.{Kvp}
use Rattle.kvp_ic.specs.declared.message.Kvp.TheVariants.{Get, Set, Delete, Enum}
use Rattle.kvp_ic.specs.declared.message.KvpReply.{KvpReply}
use Rattle.kvp_ic.specs.Machine.{told}
use Rattle.kvp_ic.specs.Messages.{kvp_bytes}
use Rattle.kvp_ic.specs.Faults.{fault_of, message_in}
use Rattle.kvp_ic.specs.Answers.{kvp_answer, told_reply}
use Rattle.pkt_desc.specs.Packets.{id_of, inband_packet}
use Rattle.page_kept.specs.declared.item.Item.{Item}
use Rattle.channel_protocol.specs.Paged.{bare_item}
use Rattle.device_packets.specs.Packets.{is_inband, content_of}
use Rattle.device_wire.specs.declared.want.Want.{Want}
use Rattle.device_wire.specs.declared.want.Want.TheVariants.{Step, Request}
use Rattle.device_wire.specs.Codecs.{Codec}
use Rattle.device_wire.specs.WireModels.{WireModel, codec_model}
use Rattle.kvp_format.specs.declared.kvp_step.KvpStep.{KvpStep}
use Rattle.kvp_format.specs.declared.kvp_step.KvpStep.TheVariants.{Negotiate}

-- a key-value message: of type 2, and with its headers whole
abbrev pub is_pair_message : List ℕ → Bool
is_pair_message b = nat_le 28 (length b) && (type_of b == 2)

-- what one asks, where it has no fault
abbrev pub pair_asked : List ℕ → Option Kvp
pair_asked b = if is_pair_message b && is_none (fault_of b) then Some (message_in b) else None

-- what a packet asks of the device
unfoldable pub pair_read : List ℕ → Option Kvp
pair_read p = if is_inband p then pair_asked (content_of p) else None

-- what answers bytes that ask nothing of it: a key-value message is refused, and any other is answered by the table of the utility services
abbrev pub unasked_bytes : List ℕ → List ℕ
unasked_bytes b = if is_pair_message b then kvp_answer b (told 0x8007_0057) else utility_answer KindKvp b

unfoldable pub pair_fixed : List ℕ → List ℕ
pair_fixed p = inband_packet (id_of p) 0 (unasked_bytes (content_of p))

-- the answer with the device's reply
unfoldable pub pair_answer : List ℕ → KvpReply → List ℕ
pair_answer p r = inband_packet (id_of p) 0 (kvp_answer (content_of p) r)

-- what an answer says
unfoldable pub pair_result : List ℕ → Option KvpReply
pair_result p = if is_inband p then told_reply (content_of p) else None

-- a text of so many units
abbrev pub is_text : ℕ → ℕ → List ℕ → Bool
is_text min max units = nat_le min (length units) && nat_le (length units) max && list_all (λ u. nat_lt 0 u && nat_lt u (2 ^ 16)) units

-- a text is there just where it is to be
abbrev pub is_part : Bool → ℕ → ℕ → Option (List ℕ) → Bool
is_part true min max (Some units) = is_text min max units
is_part true min max None = false
is_part false min max part = is_none part

-- which of key and value a reply has, by the request
abbrev pub has_parts : Kvp → KvpReply → Bool
has_parts (Get pool key) r = is_none r.key && is_part (r.status == 0) 0 1023 r.value
has_parts (Set pool key value) r = is_none r.key && is_none r.value
has_parts (Delete pool key) r = is_none r.key && is_none r.value
has_parts (Enum pool index) r = is_part (r.status == 0) 1 255 r.key && is_part (r.status == 0) 0 1023 r.value

-- the device may reply so
unfoldable pub pair_fits : Kvp → KvpReply → Bool
pair_fits q r = has_parts q r && nat_lt r.status (2 ^ 32)

-- the packet that asks the device: of its versions in the start-up
abbrev pub pair_packet : ℕ → Kvp → List ℕ
pair_packet id m = inband_packet id 0 (kvp_bytes m)

abbrev pub pair_encode : ℕ → Want KvpStep Kvp → List ℕ
pair_encode id (Step s) = negotiate_packet id
pair_encode id (Request m) = pair_packet id m

-- the channel: each in-band packet has an answer, and page words say nothing
abbrev pub pair_codec : Codec Item (Want KvpStep Kvp) Kvp KvpReply
pair_codec = record {
  id = λ i. id_of i.packet;
  answers = λ i. true;
  encode = λ id a. bare_item (pair_encode id a);
  waits = λ i. is_inband i.packet;
  read = λ i. pair_read i.packet;
  fixed = λ i. bare_item (pair_fixed i.packet);
  fits = pair_fits;
  answer = λ i r. bare_item (pair_answer i.packet r);
  said = λ i. pair_result i.packet;
}

-- it starts up with one request, which negotiates its versions
abbrev pub kvp_model : WireModel KvpStep Kvp KvpReply
kvp_model = codec_model pair_codec false (λ subs lists. Negotiate ∷ [])
