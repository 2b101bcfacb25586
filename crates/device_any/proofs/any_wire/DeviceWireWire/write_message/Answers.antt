use Rattle.page_kept.specs.Items.{item_of}
use Rattle.device_packets.specs.Said.{said_item}
use Rattle.device_any.proofs.KindLaws.{net_given}
use Rattle.device_any.proofs.any_wire.DeviceWireWire.write_message.Goals as goal

pub write_net_message-requires-clause-formed : goal.write_net_message-requires-clause-formed
write_net_message-requires-clause-formed c =
    let f = c.requires.fits in
    (net_given c.args.self.now (said_item (item_of c.args._packet.now c.args._words.now)) c.args.reply.now c.in-Net.status c.in-Net.back c.in-Net.is f.0 f.1 f.2).formed
