use Rattle.net_format.proofs.NetLaws.{fits_parts}
use Rattle.device_net.proofs.net_wire.NetWireWire.write_message.Goals as goal

pub write_net_message-requires-clause-formed : goal.write_net_message-requires-clause-formed
write_net_message-requires-clause-formed c = let f = c.requires.fits in (fits_parts f.0 c.args.reply.now f.2).1
