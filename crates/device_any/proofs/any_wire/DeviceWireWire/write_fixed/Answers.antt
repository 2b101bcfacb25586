use Rattle.std.proofs.Common.{[], take, refl, sym, subst}
use Rattle.page_kept.specs.Items.{item_of}
use Rattle.channel_protocol.specs.Listed.{answer_in}
use Rattle.channel_protocol.specs.Paged.{LaysSome}
use Rattle.device_packets.specs.Said.{said_item}
use Rattle.device_any.proofs.KindLaws.{model_at}
use Rattle.device_any.proofs.any_wire.DeviceWireWire.write_fixed.Goals as goal

pub returns-in-Disk-clause-back : goal.returns-in-Disk-clause-back
returns-in-Disk-clause-back c lends n =
    subst (λ m. LaysSome said_item (take c.write_fixed-in-Disk.result c.write_fixed-in-Disk.new.out) [] n (answer_in (m.format.fixed (said_item (item_of c.args.packet.now c.args.words.now))))) (sym (model_at c.in-Disk.is c.self.view_is))
    (c.write_fixed-in-Disk.ensures.back refl n)

pub returns-in-Net-clause-back : goal.returns-in-Net-clause-back
returns-in-Net-clause-back c lends n =
    subst (λ m. LaysSome said_item (take c.write_fixed-in-Net.result c.write_fixed-in-Net.new.out) [] n (answer_in (m.format.fixed (said_item (item_of c.args.packet.now c.args.words.now))))) (sym (model_at c.in-Net.is c.self.view_is))
    (c.write_fixed-in-Net.ensures.back refl n)
