use Rattle.std.proofs.Common.{[], ◌≡◌, true, false, take, refl, sym, ap, ◌∙◌, arith, rules}
use Rattle.std.specs.Prelude.{◌==◌}
use Rattle.std.proofs.lemmas.Bool.Decides.{nat_tests}
use Rattle.vm_page.specs.Words.{words_for, words_of}
use Rattle.stor_proto.specs.Srbs.{ask_of}
use Rattle.disk_format.specs.Disks.{sent_packet}
use Rattle.disk_format.specs.PageDisks.{bytes_of_ask, direct_packet}
use Rattle.disk_format.proofs.PageFormatLaws.{can_encoded, lays_direct, lays_sent, direct_words, sent_words}
use Rattle.device_disk.proofs.disk_wire.DiskWireWire.write_request.Goals as goal

pub returns-then-bytes-eq0-clause-value : goal.returns-then-bytes-eq0-clause-value
returns-then-bytes-eq0-clause-value c i lays =
    let q = c.args.request.now in
    let none : (bytes_of_ask q == 0) ≡ true = grind (arith, nat_tests, c.bytes_asked-bytes.ensures.value, c.if-bytes-eq0.true) in
    let is = ap (λ m. take m c.write_sent.new.out) c.bare.ensures.packet ∙ (c.write_sent.ensures.packet ∙ ap (λ v. sent_packet c.args.id v []) c.srb_ask-v.ensures.value) in
    lays_sent c.args.id q _ _ _ c.requires.can none is c.bare.ensures.none.1 i lays ∙ can_encoded c.args.id q c.requires.can

pub returns-then-bytes-eq0-clause-lent : goal.returns-then-bytes-eq0-clause-lent
returns-then-bytes-eq0-clause-lent c lends =
    let q = c.args.request.now in
    let is = ap (λ m. take m c.write_sent.new.out) c.bare.ensures.packet ∙ (c.write_sent.ensures.packet ∙ ap (λ v. sent_packet c.args.id v []) c.srb_ask-v.ensures.value) in
    c.bare.ensures.none.1 ∙ sym (sent_words c.args.id q _ c.requires.can is)

pub returns-clause-value : goal.returns-clause-value
returns-clause-value c i lays =
    let q = c.args.request.now in
    let n = bytes_of_ask q in
    let some : (n == 0) ≡ false = grind (arith, nat_tests, c.bytes_asked-bytes.ensures.value, c.if-bytes-eq0.false) in
    let is = c.write_direct-packet.ensures.packet ∙ ap (λ m. direct_packet c.args.id m c.srb_ask-v.result) c.bytes_asked-bytes.ensures.value ∙ ap (direct_packet c.args.id n) c.srb_ask-v.ensures.value in
    let whole : c.div_ceil.result ≡ words_for c.bytes_asked-bytes.result = search rules in
    let many : c.div_ceil.result ≡ words_for n = whole ∙ ap words_for c.bytes_asked-bytes.ensures.value in
    lays_direct c.args.id q _ _ _ c.requires.can some is (c.put_words-words.ensures.words ∙ ap words_of c.bytes.ensures.value) many i lays ∙ can_encoded c.args.id q c.requires.can

pub returns-clause-lent : goal.returns-clause-lent
returns-clause-lent c lends =
    let q = c.args.request.now in
    let n = bytes_of_ask q in
    let is = c.write_direct-packet.ensures.packet ∙ ap (λ m. direct_packet c.args.id m c.srb_ask-v.result) c.bytes_asked-bytes.ensures.value ∙ ap (direct_packet c.args.id n) c.srb_ask-v.ensures.value in
    let whole : c.div_ceil.result ≡ words_for c.bytes_asked-bytes.result = search rules in
    let many : c.div_ceil.result ≡ words_for n = whole ∙ ap words_for c.bytes_asked-bytes.ensures.value in
    many ∙ sym (direct_words c.args.id n (ask_of q) _ is (c.requires.id refl) (omega (arith, c.bytes_asked-bytes.ensures.value, c.if-bytes-eq0.false)) c.requires.can.few)
