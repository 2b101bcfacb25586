use Rattle.std.proofs.Common.{sym, ap, ◌∙◌}
use Rattle.device_packets.specs.Packets.{is_inband}
use Rattle.device_kvp.proofs.kvp_wire.KvpWireWire.is_waiting.Goals as goal

pub returns : goal.returns
returns c i same = c.is_inband.ensures.value ∙ ap is_inband (sym same)
