use Rattle.std.proofs.Common.{take, sym, ap, subst, ◌∙◌}
use Rattle.pkt_desc.specs.Packets.{id_of}
use Rattle.channel_protocol.specs.Listed.{message_in}
use Rattle.channel_protocol.specs.Paged.{LaysSome}
use Rattle.device_packets.specs.Said.{said_item}
use Rattle.net_format.specs.PageNets.{fixed_by}
use Rattle.device_net.specs.Came.{IsCame}
use Rattle.device_packets.proofs.SaidLaws.{none_so}
use Rattle.device_net.proofs.NetCameLaws.{fixed_message}
use Rattle.device_net.proofs.NetFixedLaws.{none_besides}
use Rattle.device_net.proofs.net_wire.NetWireWire.write_fixed_message.Goals as goal

pub returns-in-Rndis-clause-value : goal.returns-in-Rndis-clause-value
returns-in-Rndis-clause-value c =
    let p = c.args.packet.now in
    let t = subst (λ x. IsCame x p) c.in-Rndis.is c.what_came.ensures in
    let is = ap (message_in c.args.own) (fixed_message p c.args.words.now t ∙ ap (fixed_by (id_of p)) (sym c.message.ensures)) in
    subst (LaysSome said_item (take c.write_complete.result.packet c.write_complete.new.out) (take c.write_complete.result.words c.write_complete.new.page) c.write_complete.result.lent) (sym is) (c.write_complete.ensures.value (id_of p))

pub returns-in_default-clause-value : goal.returns-in_default-clause-value
returns-in_default-clause-value c =
    none_so _ _ _ _ (none_besides c.args.own c.args.packet.now c.args.words.now c.what_came.result c.what_came.ensures c.in_default.not-Rndis) (ap (λ n. take n c.args.out.now) c.bare.ensures.packet)
