-- What the packets of a utility channel say: the host asks a service of the guest.
use Rattle.std.specs.Prelude.{ℕ, ◌<◌, ◌^◌, ◌==◌, Bool, true, false, ◌&&◌, List, [], ◌∷◌, Option, Some, None, if◌then◌else◌}
use Rattle.contact.specs.declared.kind.DeviceKind.{DeviceKind}
use Rattle.contact.specs.declared.kind.DeviceKind.TheVariants.{Beat, Down}
use Rattle.util_ic.specs.declared.ic.IcAsk.{IcAsk}
use Rattle.util_ic.specs.declared.ic.IcAsk.TheVariants.{Beat as AskBeat, Down as AskDown}
use Rattle.util_ic.specs.declared.ic.IcAnswer.{IcAnswer}
use Rattle.util_ic.specs.Asks.{ask_of, answer_of, reply_of}
use Rattle.pkt_desc.specs.Packets.{id_of}
use Rattle.util_ic.specs.Packets.{ask_packet, negotiate_packet, served_packet, answer_packet}
use Rattle.device_packets.specs.Packets.{is_inband, content_of}
use Rattle.page_kept.specs.declared.item.Item.{Item}
use Rattle.channel_protocol.specs.Paged.{bare_item}
use Rattle.device_wire.specs.declared.want.Want.{Want}
use Rattle.device_wire.specs.declared.want.Want.TheVariants.{Step, Request}
use Rattle.device_wire.specs.Codecs.{Codec}
use Rattle.device_wire.specs.WireModels.{WireModel, codec_model}
use Rattle.ic_format.specs.declared.ic_step.IcStep.{IcStep}
use Rattle.ic_format.specs.declared.ic_step.IcStep.TheVariants.{Negotiate}

-- what a packet asks of the service of this kind
unfoldable pub service_read : DeviceKind → List ℕ → Option IcAsk
service_read kind p = if is_inband p then ask_of kind (content_of p) else None

-- the answer to a packet that asks nothing of the service
unfoldable pub service_fixed : DeviceKind → List ℕ → List ℕ
service_fixed kind p = served_packet (id_of p) kind (content_of p)

-- the answer with the service's reply
unfoldable pub service_answer : List ℕ → IcAnswer → List ℕ
service_answer p r = answer_packet (id_of p) (content_of p) r

-- what an answer says
unfoldable pub service_result : DeviceKind → List ℕ → Option IcAnswer
service_result kind p = if is_inband p then Some (answer_of kind (content_of p)) else None

-- the service replies so
unfoldable pub service_fits : DeviceKind → IcAsk → IcAnswer → Bool
service_fits kind q r = (r.status == (reply_of kind q).status) && (r.seq == (reply_of kind q).seq)

-- the packet that asks a service: of its versions in the start-up
abbrev pub service_encode : ℕ → Want IcStep IcAsk → List ℕ
service_encode id (Step s) = negotiate_packet id
service_encode id (Request ask) = ask_packet id ask

-- the channel of a service of this kind: each in-band packet has an answer, and page words say nothing
abbrev pub service_codec : DeviceKind → Codec Item (Want IcStep IcAsk) IcAsk IcAnswer
service_codec kind = record {
  id = λ i. id_of i.packet;
  answers = λ i. true;
  encode = λ id a. bare_item (service_encode id a);
  waits = λ i. is_inband i.packet;
  read = λ i. service_read kind i.packet;
  fixed = λ i. bare_item (service_fixed kind i.packet);
  fits = service_fits kind;
  answer = λ i r. bare_item (service_answer i.packet r);
  said = λ i. service_result kind i.packet;
}

-- a utility service starts up with one request, which negotiates its versions
abbrev pub ic_model : DeviceKind → WireModel IcStep IcAsk IcAnswer
ic_model kind = codec_model (service_codec kind) false (λ subs lists. Negotiate ∷ [])

-- a heartbeat and a shutdown whose numbers fit their fields
abbrev pub IsBeatAsk : IcAsk → Type 0
IsBeatAsk (AskBeat seq) = seq < 2 ^ 64
IsBeatAsk (AskDown reason timeout flags) = ⊥

abbrev pub IsDownAsk : IcAsk → Type 0
IsDownAsk (AskBeat seq) = ⊥
IsDownAsk (AskDown reason timeout flags) = (reason < 2 ^ 32) × (timeout < 2 ^ 32) × (flags < 2 ^ 32)

-- what can be asked of the service of this kind
abbrev pub IsIcAsk : DeviceKind → IcAsk → Type 0
IsIcAsk Beat ask = IsBeatAsk ask
IsIcAsk Down ask = IsDownAsk ask
IsIcAsk kind ask = ⊥
