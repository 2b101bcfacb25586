use Rattle.std.proofs.Common.{[], take, sym, ap, ◌∙◌}
use Rattle.page_kept.specs.Items.{item_of}
use Rattle.channel_protocol.specs.Paged.{words_lent}
use Rattle.device_packets.proofs.SaidLaws.{bare_so}
use Rattle.net_format.specs.Nets.{in_form, net_receive, net_send}
use Rattle.net_format.specs.PageNets.{net_start, rndis_sent}
use Rattle.net_format.proofs.NetLaws.{initialize_formed}
use Rattle.net_format.proofs.NetPageLaws.{own_handle, receive_words, send_words, init_words, ndis_words}
use Rattle.device_net.proofs.net_wire.NetWireWire.write_step.Goals as goal

pub returns-in-Init-clause-value : goal.returns-in-Init-clause-value
returns-in-Init-clause-value c i lays =
    let is = ap (λ n. take n c.write_init.new.out) c.bare.ensures.packet ∙ c.write_init.ensures.packet in
    bare_so _ _ _ i _ c.bare.ensures.none.1 (ap (λ p. item_of p []) is ∙ sym (ap (net_start c.args.id) c.in-Init.is)) lays

pub returns-in-Version-clause-value : goal.returns-in-Version-clause-value
returns-in-Version-clause-value c i lays =
    let is = ap (λ n. take n c.write_version.new.out) c.bare-in-Version.ensures.packet ∙ c.write_version.ensures.packet in
    bare_so _ _ _ i _ c.bare-in-Version.ensures.none.1 (ap (λ p. item_of p []) is ∙ sym (ap (net_start c.args.id) c.in-Version.is)) lays

pub returns-in-ReceiveList-clause-value : goal.returns-in-ReceiveList-clause-value
returns-in-ReceiveList-clause-value c i lays =
    let is = ap (λ n. take n c.write_receive.new.out) c.bare-in-ReceiveList.ensures.packet ∙ c.write_receive.ensures.packet in
    let own = sym (own_handle c.in-ReceiveList.handle c.write_receive.ensures.handle) in
    bare_so _ _ _ i _ c.bare-in-ReceiveList.ensures.none.1 (ap (λ p. item_of p []) is ∙ (ap (λ h. item_of (net_receive c.args.id h) []) own ∙ sym (ap (net_start c.args.id) c.in-ReceiveList.is))) lays

pub returns-in-SendList-clause-value : goal.returns-in-SendList-clause-value
returns-in-SendList-clause-value c i lays =
    let is = ap (λ n. take n c.write_send.new.out) c.bare-in-SendList.ensures.packet ∙ c.write_send.ensures.packet in
    let own = sym (own_handle c.in-SendList.handle c.write_send.ensures.handle) in
    bare_so _ _ _ i _ c.bare-in-SendList.ensures.none.1 (ap (λ p. item_of p []) is ∙ (ap (λ h. item_of (net_send c.args.id h) []) own ∙ sym (ap (net_start c.args.id) c.in-SendList.is))) lays

pub returns-in-Init-clause-lent : goal.returns-in-Init-clause-lent
returns-in-Init-clause-lent c e = c.bare.ensures.none.1 ∙ sym (ap words_lent (ap (λ n. take n c.write_init.new.out) c.bare.ensures.packet ∙ c.write_init.ensures.packet) ∙ init_words c.args.id)

pub returns-in-Version-clause-lent : goal.returns-in-Version-clause-lent
returns-in-Version-clause-lent c e = c.bare-in-Version.ensures.none.1 ∙ sym (ap words_lent (ap (λ n. take n c.write_version.new.out) c.bare-in-Version.ensures.packet ∙ c.write_version.ensures.packet) ∙ ndis_words)

pub returns-in-ReceiveList-clause-lent : goal.returns-in-ReceiveList-clause-lent
returns-in-ReceiveList-clause-lent c e = c.bare-in-ReceiveList.ensures.none.1 ∙ sym (ap words_lent (ap (λ n. take n c.write_receive.new.out) c.bare-in-ReceiveList.ensures.packet ∙ c.write_receive.ensures.packet) ∙ receive_words c.args.id c.in-ReceiveList.handle c.write_receive.ensures.handle)

pub returns-in-SendList-clause-lent : goal.returns-in-SendList-clause-lent
returns-in-SendList-clause-lent c e = c.bare-in-SendList.ensures.none.1 ∙ sym (ap words_lent (ap (λ n. take n c.write_send.new.out) c.bare-in-SendList.ensures.packet ∙ c.write_send.ensures.packet) ∙ send_words c.args.id c.in-SendList.handle c.write_send.ensures.handle)

pub write_sent-requires-clause-formed : goal.write_sent-requires-clause-formed
write_sent-requires-clause-formed c = ap in_form c.initialize.ensures ∙ initialize_formed c.args.id

pub returns-in-Initialize-clause-value : goal.returns-in-Initialize-clause-value
returns-in-Initialize-clause-value c i lays =
    c.write_sent.ensures.value i lays ∙ ap (rndis_sent c.args.id) c.initialize.ensures ∙ sym (ap (net_start c.args.id) c.in-Initialize.is)
