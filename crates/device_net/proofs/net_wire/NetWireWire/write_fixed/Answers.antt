use Rattle.device_net.proofs.net_wire.NetWireWire.write_fixed.Goals as goal

pub returns-clause-value : goal.returns-clause-value
returns-clause-value c = c.write_net_fixed.ensures.value 0
