use Rattle.std.proofs.Common.{◌∙◌}
use Rattle.net_format.proofs.NetPageLaws.{ack_is, said_acked}
use Rattle.device_net.proofs.net_wire.NetWireWire.write_ack.Goals as goal

pub returns-clause-value : goal.returns-clause-value
returns-clause-value c i j same message is = said_acked i j (is ∙ (c.write_done.ensures.packet ∙ ack_is i c.args.packet.now c.taken.result same c.taken.ensures))
