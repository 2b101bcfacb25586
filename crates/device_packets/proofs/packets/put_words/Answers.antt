use Rattle.std.proofs.Common.{◌≡◌, ◌<◌, ◌∙◌, length, take, ap, arith, rules}
use Rattle.vm_page.specs.Words.{words_for, words_of}
use Rattle.pkt_desc.proofs.PayloadLaws.{words_more, words_all}
use Rattle.device_packets.proofs.packets.put_words.Goals as goal

pub loop-i-preserved : goal.loop-i-preserved
loop-i-preserved c =
    let bytes = c.args.bytes.now in
    let n = words_for (length bytes) in
    let lt : c.loop-i.i < n = search rules in (
      words_more n c.loop-i.i c.loop-i.page (words_of bytes) bytes c.word_of.result lt (omega arith) c.word_of.ensures c.loop-i.invariant.0,
      search rules,
    )

pub returns-clause-words : goal.returns-clause-words
returns-clause-words c =
    let bytes = c.args.bytes.now in
    let n = words_for (length bytes) in
    let is : n ≡ c.loop-i.i = search rules in
    let all : c.div_ceil-words.result ≡ n = search rules in
    ap (λ m. take m c.loop-i.page) all ∙ words_all n c.loop-i.i c.loop-i.page (words_of bytes) bytes is c.loop-i.invariant.0
