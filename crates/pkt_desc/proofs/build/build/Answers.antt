use Rattle.std.proofs.Common.{◌≡◌, ◌∙◌, ◌∷◌, length, ap, arith, rules}
use Rattle.vm_page.specs.Words.{words_for, words_of}
use Rattle.pkt_desc.proofs.PacketLaws.{two_then, plain_carries}
use Rattle.pkt_desc.proofs.build.build.Goals as goal

pub returns-clause-packet : goal.returns-clause-packet
returns-clause-packet c =
    let payload = c.args.payload.now in
    let n = words_for (length payload) in
    let is : c.div_ceil-words.result ≡ n = search rules in
    let put = two_then c.args.out.now c.put_payload.new.out (words_of payload) c.first_word.result c.args.tid n _ (omega arith) (search rules) c.put_payload.ensures.words in
    let first = rw is at c.first_word.ensures in
    rw is (put ∙ ap (λ w. w ∷ c.args.tid ∷ words_of payload) first)

pub returns-clause-carries : goal.returns-clause-carries
returns-clause-carries c =
    let packet = returns-clause-packet c in
    rw packet (plain_carries c.args.kind c.args.tid c.args.flags c.args.payload.now (search rules) (search rules) c.requires.size (λ i. omega (arith, c.type_inv.payload i)))
