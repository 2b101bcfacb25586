use Rattle.std.proofs.Common.{take, refl, ap, ◌∙◌}
use Rattle.page_kept.specs.declared.item.Item.{Item}
use Rattle.page_kept.specs.Items.{item_of}
use Rattle.channel_model.specs.WireFormat.{Back}
use Rattle.net_dev.specs.declared.reply.NetReply.{NetReply}
use Rattle.device_wire.proofs.LiftedLaws.{back_is}
use Rattle.device_packets.specs.Said.{said_item}
use Rattle.disk_format.specs.PageDisks.{disk_model}
use Rattle.net_format.specs.PageNets.{net_model}
use Rattle.net_format.proofs.NetPageLaws.{said_given}
use Rattle.device_kinds.specs.Kinds.{disks, nets, model_of}
use Rattle.device_any.proofs.KindLaws.{model_at, net_given}
use Rattle.device_any.proofs.any_wire.DeviceWireWire.write_answer.Goals as goal

pub returns-in-Disk-reply-clause-back : goal.returns-in-Disk-reply-clause-back
returns-in-Disk-reply-clause-back c lends n i le lays =
    let model_is = model_at c.in-Disk.is c.self.view_is in
    c.write_answer-in-Disk.ensures.back refl n i le lays
    ∙ ap (λ (b : Back Item). b.answer) (back_is disks disk_model (model_of c.args.self.now) model_is (said_item (item_of c.args.packet.now c.args.words.now)) c.args.reply.now c.in-Disk-reply.told (ap disks.own_reply c.in-Disk-reply.is))

pub returns-in-Net-reply-clause-back : goal.returns-in-Net-reply-clause-back
returns-in-Net-reply-clause-back c lends n i le lays =
    let f = c.requires.fits in
    let asked = said_item (item_of c.args.packet.now c.args.words.now) in
    let r : NetReply = record { status = c.in-Net-reply.status; back = c.in-Net-reply.back } in
    let given = net_given c.args.self.now asked c.args.reply.now r.status r.back c.in-Net-reply.is f.0 f.1 f.2 in
    said_given asked i r given.small (lays.packet_is ∙ (ap (λ m. take m c.write_done.new.out) c.bare.ensures.packet ∙ c.write_done.ensures.packet))
    ∙ ap (λ (b : Back Item). b.answer) (back_is nets net_model (model_of c.args.self.now) (model_at c.in-Net.is c.self.view_is) asked c.args.reply.now r (ap nets.own_reply c.in-Net-reply.is))
