use Rattle.std.proofs.Common.{Option, Some, sym, ap, ◌∙◌}
use Rattle.page_kept.specs.Items.{item_of}
use Rattle.channel_protocol.specs.Paged.{item_in}
use Rattle.net_dev.specs.declared.reply.NetReply.{NetReply}
use Rattle.rndis_msg.specs.declared.rndis.Rndis.{Rndis}
use Rattle.device_packets.specs.Said.{said_item}
use Rattle.device_net.proofs.CameLaws.{said_some}
use Rattle.device_net.proofs.net_wire.NetWireWire.reply.Goals as goal

pub returns : goal.returns
returns c =
    let some = said_some (item_in said_item c.args.before.now c.args.before_words.now) (said_item (item_of c.args._packet.now c.args._words.now)) c.args.status.now c.requires.head in
    let F : Option Rndis → NetReply = λ b. record { status = c.args.status.now; back = b } in
    some ∙ ap (λ b. Some (F b)) (sym c.back.ensures)
