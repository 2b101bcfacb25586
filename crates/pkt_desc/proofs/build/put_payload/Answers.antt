use Rattle.std.proofs.Common.{◌≡◌, ◌<◌, ◌∙◌, length, arith, rules}
use Rattle.std.proofs.lemmas.List.{drop-set-lt}
use Rattle.vm_page.specs.Words.{words_for, words_of}
use Rattle.pkt_desc.proofs.PayloadLaws.{words_more, words_all}
use Rattle.pkt_desc.proofs.build.put_payload.Goals as goal

pub loop-i-preserved : goal.loop-i-preserved
loop-i-preserved c =
    let payload = c.args.payload.now in
    let n = words_for (length payload) in
    let lt : c.loop-i.i < n = search rules in (
      words_more n c.loop-i.i c.loop-i.out (words_of payload) payload c.word_of.result lt (omega arith) c.word_of.ensures c.loop-i.invariant.0,
      drop-set-lt n c.loop-i.out c.loop-i.i c.word_of.result lt ∙ c.loop-i.invariant.1,
    )

pub returns-clause-words : goal.returns-clause-words
returns-clause-words c =
    let payload = c.args.payload.now in
    let n = words_for (length payload) in
    let is : n ≡ c.loop-i.i = search rules in
    words_all n c.loop-i.i c.loop-i.out (words_of payload) payload is c.loop-i.invariant.0
