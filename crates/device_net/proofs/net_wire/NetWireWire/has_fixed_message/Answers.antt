use Rattle.std.proofs.Common.{sym, ap, subst, ◌∙◌}
use Rattle.pkt_desc.specs.Packets.{id_of}
use Rattle.channel_protocol.specs.Listed.{has_message_in}
use Rattle.net_format.specs.PageNets.{fixed_by}
use Rattle.device_net.specs.Came.{IsCame}
use Rattle.device_net.proofs.NetFixedLaws.{no_message}
use Rattle.device_net.proofs.NetCameLaws.{fixed_message}
use Rattle.device_net.proofs.net_wire.NetWireWire.has_fixed_message.Goals as goal

pub returns-in-Rndis : goal.returns-in-Rndis
returns-in-Rndis c =
    let p = c.args.packet.now in
    let t = subst (λ x. IsCame x p) c.in-Rndis.is c.what_came.ensures in
    c.begins.ensures (id_of p) ∙ (ap (λ r. has_message_in (fixed_by (id_of p) r)) c.message.ensures ∙ sym (ap has_message_in (fixed_message p c.args.words.now t)))

pub returns-in_default : goal.returns-in_default
returns-in_default c = sym (no_message c.args.packet.now c.args.words.now c.what_came.result c.what_came.ensures c.in_default.not-Rndis)
