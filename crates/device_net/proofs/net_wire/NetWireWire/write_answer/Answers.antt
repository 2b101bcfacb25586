use Rattle.std.proofs.Common.{take, ap, ◌∙◌}
use Rattle.page_kept.specs.Items.{item_of}
use Rattle.net_format.proofs.NetLaws.{fits_parts}
use Rattle.net_format.proofs.NetPageLaws.{said_given}
use Rattle.device_net.proofs.net_wire.NetWireWire.write_answer.Goals as goal

pub returns-clause-back : goal.returns-clause-back
returns-clause-back c lends n i le lays =
    let f = c.requires.fits in
    said_given (item_of c.args.packet.now c.args._words.now) i c.args.reply.now (fits_parts f.0 c.args.reply.now f.2).0 (lays.packet_is ∙ (ap (λ m. take m c.write_done.new.out) c.bare.ensures.packet ∙ c.write_done.ensures.packet))
