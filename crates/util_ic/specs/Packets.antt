-- The packets of a utility channel.
use Rattle.std.specs.Prelude.{ℕ, List}
use Rattle.contact.specs.declared.kind.DeviceKind.{DeviceKind}
use Rattle.pkt_desc.specs.Packets.{inband_packet}
use Rattle.util_ic.specs.declared.ic.IcAsk.{IcAsk}
use Rattle.util_ic.specs.declared.ic.IcAnswer.{IcAnswer}
use Rattle.util_ic.specs.Messages.{ask_bytes, negotiate_bytes}
use Rattle.util_ic.specs.Answers.{utility_answer}
use Rattle.util_ic.specs.Asks.{answer_bytes}

-- a request under an id
abbrev pub ask_packet : ℕ → IcAsk → List ℕ
ask_packet id ask = inband_packet id 0 (ask_bytes ask)

-- the negotiate message under an id
abbrev pub negotiate_packet : ℕ → List ℕ
negotiate_packet id = inband_packet id 0 negotiate_bytes

-- the answer to a request's bytes, under the request's id
abbrev pub served_packet : ℕ → DeviceKind → List ℕ → List ℕ
served_packet id kind request = inband_packet id 0 (utility_answer kind request)

-- the answer to a request's bytes that carries a machine's reply, under the request's id
abbrev pub answer_packet : ℕ → List ℕ → IcAnswer → List ℕ
answer_packet id request answer = inband_packet id 0 (answer_bytes request answer)
