use Rattle.std.proofs.Common.{◌≡◌, length, sym, ap, ◌∙◌, arith}
use Rattle.std.proofs.lemmas.List.{length-take-le}
use Rattle.rndis_msg.specs.Grammar.{rndis_bytes}
use Rattle.vm_page.specs.Words.{words_for, words_of}
use Rattle.net_format.specs.Nets.{channel_type}
use Rattle.net_format.specs.PageNets.{section_packet}
use Rattle.net_format.proofs.NetLaws.{formed}
use Rattle.net_format.proofs.NetPageLaws.{lays_sent, sent_is, sent_kind, sent_words}
use Rattle.device_net.proofs.page_nets.write_sent.Goals as goal

pub returns-clause-value : goal.returns-clause-value
returns-clause-value c i lays =
    let m = c.args.m.now in
    let len = ap length c.encode-len.ensures.written in
    let size : c.encode-len.result ≡ length (rndis_bytes m) = omega (arith, len, length-take-le c.encode-len.result c.encode-len.new.out (omega (arith, c.encode-len.ensures.most))) in
    let packet = c.write_section-packet.ensures.packet ∙ (ap (λ k. section_packet c.args.id k c.encode-len.result) c.channel_type.ensures ∙ (ap (section_packet c.args.id (channel_type m)) size ∙ sent_is c.args.id m)) in
    let words = c.put_words-words.ensures.words ∙ ap words_of c.encode-len.ensures.written in
    let many = c.put_words-words.ensures.len ∙ ap (λ b. words_for (length b)) c.encode-len.ensures.written in
    lays_sent c.args.id m _ _ _ packet words many (sent_kind c.args.id m _ packet) i lays

pub returns-clause-lent : goal.returns-clause-lent
returns-clause-lent c =
    let m = c.args.m.now in
    let len = ap length c.encode-len.ensures.written in
    let size : c.encode-len.result ≡ length (rndis_bytes m) = omega (arith, len, length-take-le c.encode-len.result c.encode-len.new.out (omega (arith, c.encode-len.ensures.most))) in
    let packet = c.write_section-packet.ensures.packet ∙ (ap (λ k. section_packet c.args.id k c.encode-len.result) c.channel_type.ensures ∙ (ap (section_packet c.args.id (channel_type m)) size ∙ sent_is c.args.id m)) in
    let many = c.put_words-words.ensures.len ∙ ap (λ b. words_for (length b)) c.encode-len.ensures.written in
    many ∙ sym (sent_words c.args.id m _ (formed m c.requires.formed) c.requires.id packet)
