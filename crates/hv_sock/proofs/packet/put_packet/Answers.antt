use Rattle.std.proofs.Common.{◌≡◌, ◌+◌, ◌*◌, ◌%◌, ◌^◌, ◌∷◌, length, take, set, sym, ◌∙◌, arith, rules}
use borrow.Rule.Slice.PartMut.{put_mid}
use Rattle.vm_page.specs.Words.{words_for, words_of}
use Rattle.pkt_desc.specs.Packets.{head}
use Rattle.hv_sock.proofs.PacketLaws.{sock_words, three_then}
use Rattle.hv_sock.proofs.packet.put_packet.Goals as goal

pub returns-clause-packet : goal.returns-clause-packet
returns-clause-packet c =
    let bytes = c.args.bytes.now in
    let out = c.args.out.now in
    let n = words_for (length bytes) in
    let is : c.div_ceil-words.result ≡ n = search rules in
    let first = 131078 + (3 + c.div_ceil-words.result) * 4294967296 % 18446744073709551616 in
    let third = c.from.result + length bytes * 4294967296 % 18446744073709551616 in
    let put = three_then out c.put_words.new.out (words_of bytes) first 0 third n 256 (omega arith) (search rules) c.put_words.ensures.words in
    let first_is : first ≡ head 6 2 (3 + n) 0 = omega (arith, is) in
    let third_is : third ≡ 1 + length bytes * 2 ^ 32 = omega (arith, c.from.ensures) in
    (λ i. take (3 + is i) (put_mid 3 256 (set (set (set out 0 first) 1 0) 2 third) c.put_words.new.out)) ∙ (put ∙ ((λ i. first_is i ∷ 0 ∷ third_is i ∷ words_of bytes) ∙ sym (sock_words bytes c.requires)))
