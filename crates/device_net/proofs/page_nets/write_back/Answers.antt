use Rattle.std.proofs.Common.{◌≡◌, length, sym, ap, ◌∙◌, arith}
use Rattle.std.proofs.lemmas.List.{length-take-le}
use Rattle.rndis_msg.specs.Grammar.{rndis_bytes}
use Rattle.vm_page.specs.Words.{words_for, words_of}
use Rattle.net_format.specs.Nets.{channel_type}
use Rattle.net_format.specs.PageNets.{transfer_packet}
use Rattle.net_format.proofs.NetLaws.{formed}
use Rattle.net_format.proofs.NetPageLaws.{lays_back, back_is, back_words}
use Rattle.device_net.proofs.page_nets.write_back.Goals as goal

pub returns-clause-value : goal.returns-clause-value
returns-clause-value c i lays =
    let m = c.args.m.now in
    let len = ap length c.encode-len.ensures.written in
    let size : c.encode-len.result ≡ length (rndis_bytes m) = omega (arith, len, length-take-le c.encode-len.result c.encode-len.new.out (omega (arith, c.encode-len.ensures.most))) in
    let packet = c.write_transfer-packet.ensures.packet ∙ (ap (λ k. transfer_packet c.args.own k c.encode-len.result) c.channel_type.ensures ∙ (ap (transfer_packet c.args.own (channel_type m)) size ∙ back_is c.args.own m)) in
    let words = c.put_words-words.ensures.words ∙ ap words_of c.encode-len.ensures.written in
    let many = c.put_words-words.ensures.len ∙ ap (λ b. words_for (length b)) c.encode-len.ensures.written in
    lays_back c.args.own m _ _ _ packet words many i lays

pub returns-clause-lent : goal.returns-clause-lent
returns-clause-lent c =
    let m = c.args.m.now in
    let len = ap length c.encode-len.ensures.written in
    let size : c.encode-len.result ≡ length (rndis_bytes m) = omega (arith, len, length-take-le c.encode-len.result c.encode-len.new.out (omega (arith, c.encode-len.ensures.most))) in
    let packet = c.write_transfer-packet.ensures.packet ∙ (ap (λ k. transfer_packet c.args.own k c.encode-len.result) c.channel_type.ensures ∙ (ap (transfer_packet c.args.own (channel_type m)) size ∙ back_is c.args.own m)) in
    let many = c.put_words-words.ensures.len ∙ ap (λ b. words_for (length b)) c.encode-len.ensures.written in
    many ∙ sym (back_words c.args.own m _ (formed m c.requires.formed) c.requires.own packet)
