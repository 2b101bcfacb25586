use Rattle.std.proofs.Common.{take, ap, ◌∙◌}
use Rattle.channel_protocol.specs.Paged.{bare_item}
use Rattle.device_packets.proofs.SaidLaws.{bare_so}
use Rattle.device_kvp.proofs.kvp_wire.KvpWireWire.write_request.Goals as goal

pub returns-clause-value : goal.returns-clause-value
returns-clause-value c i lays = bare_so _ _ _ i _ c.bare.ensures.none.1 (ap bare_item (ap (λ n. take n c.write_pair_ask.new.out) c.bare.ensures.packet ∙ c.write_pair_ask.ensures.packet)) lays
