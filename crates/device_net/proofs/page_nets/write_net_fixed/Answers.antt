use Rattle.std.proofs.Common.{[], take, refl, sym, ap, subst, ◌∙◌, arith}
use Rattle.pkt_desc.specs.Packets.{id_of}
use Rattle.channel_protocol.specs.Listed.{answer_in}
use Rattle.channel_protocol.specs.Paged.{LaysSome}
use Rattle.device_packets.specs.Said.{said_item}
use Rattle.net_format.specs.PageNets.{fixed_by}
use Rattle.net_format.proofs.NetPageLaws.{said_fixed}
use Rattle.page_kept.specs.Items.{item_of}
use Rattle.device_net.specs.Came.{IsCame}
use Rattle.device_packets.proofs.SaidLaws.{none_so}
use Rattle.device_net.proofs.NetCameLaws.{fixed_init, fixed_receive, fixed_send, fixed_message, fixed_none}
use Rattle.device_net.proofs.page_nets.write_net_fixed.Goals as goal

pub returns-in-Init-clause-value : goal.returns-in-Init-clause-value
returns-in-Init-clause-value c n =
    let p = c.args.packet.now in
    let t = subst (λ x. IsCame x p) c.in-Init.is c.what_came.ensures in
    let is = fixed_init p c.args.words.now t.0 in
    subst (λ o. LaysSome said_item (take c.write_init_done.result c.write_init_done.new.out) [] n (answer_in o)) (sym is)
    (omega (arith, c.write_init_done.ensures.is_packet.two), λ i lays. said_fixed (said_item (item_of p c.args.words.now)) i _ is (lays.packet_is ∙ c.write_init_done.ensures.packet))

pub returns-in-Receive-clause-value : goal.returns-in-Receive-clause-value
returns-in-Receive-clause-value c n =
    let p = c.args.packet.now in
    let t = subst (λ x. IsCame x p) c.in-Receive.is c.what_came.ensures in
    let is = fixed_receive p c.args.words.now t in
    subst (λ o. LaysSome said_item (take c.write_receive_done.result c.write_receive_done.new.out) [] n (answer_in o)) (sym is)
    (omega (arith, c.write_receive_done.ensures.is_packet.two), λ i lays. said_fixed (said_item (item_of p c.args.words.now)) i _ is (lays.packet_is ∙ c.write_receive_done.ensures.packet))

pub returns-in-Send-clause-value : goal.returns-in-Send-clause-value
returns-in-Send-clause-value c n =
    let p = c.args.packet.now in
    let t = subst (λ x. IsCame x p) c.in-Send.is c.what_came.ensures in
    let is = fixed_send p c.args.words.now t in
    subst (λ o. LaysSome said_item (take c.write_send_done.result c.write_send_done.new.out) [] n (answer_in o)) (sym is)
    (omega (arith, c.write_send_done.ensures.is_packet.two), λ i lays. said_fixed (said_item (item_of p c.args.words.now)) i _ is (lays.packet_is ∙ c.write_send_done.ensures.packet))

pub returns-in-Rndis-clause-value : goal.returns-in-Rndis-clause-value
returns-in-Rndis-clause-value c n =
    let p = c.args.packet.now in
    let t = subst (λ x. IsCame x p) c.in-Rndis.is c.what_came.ensures in
    let is = fixed_message p c.args.words.now t ∙ ap (fixed_by (id_of p)) (sym c.message.ensures) in
    subst (λ o. LaysSome said_item (take c.write_completed.result c.write_completed.new.out) [] n (answer_in o)) (sym is) (c.write_completed.ensures.value n)

pub returns-in-Other-clause-value : goal.returns-in-Other-clause-value
returns-in-Other-clause-value c n =
    let p = c.args.packet.now in
    let t = subst (λ x. IsCame x p) c.in-Other.is c.what_came.ensures in
    none_so _ [] n _ (ap answer_in (fixed_none p c.args.words.now t)) refl
