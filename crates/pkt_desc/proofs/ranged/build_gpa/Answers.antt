use Rattle.std.proofs.Common.{◌≡◌, ◌+◌, ◌-◌, ◌*◌, ◌^◌, ◌≤◌, ◌++◌, ◌∙◌, length, drop, sym, ap, arith, rules}
use Rattle.std.specs.List.{flat_map}
use borrow.Rule.Slice.PartMut.{put_mid}
use Rattle.vm_page.specs.Words.{words_for, words_of}
use Rattle.pkt_desc.specs.Ranges.{high_32, spans_words}
use Rattle.pkt_desc.specs.Built.{words_of_span, ranged_packet}
use Rattle.pkt_desc.proofs.RangeLaws.{spans_size, spans_long, spans_read}
use Rattle.pkt_desc.proofs.RoundLaws.{behind_three, end_kept, ranged_carries}
use Rattle.pkt_desc.proofs.ranged.build_gpa.Goals as goal

pub returns-clause-packet : goal.returns-clause-packet
returns-clause-packet c =
    let out = c.args.out.now in
    let payload = c.args.payload.now in
    let n = 2 * length c.args.spans.now in
    let room : 3 + n ≤ length out = search rules in
    let third : c.pair-third.result ≡ length c.args.spans.now * 2 ^ 32 = search rules in
    let ranges = behind_three out c.put_spans.new.out (length out - 3) n (omega (arith, room)) (search rules) ∙ c.put_spans.ensures.words in
    c.build_round.ensures.packet ∙ (ap (λ l. ranged_packet 9 c.args.tid c.pair-third.result l payload) ranges ∙ ap (λ t. ranged_packet 9 c.args.tid t (flat_map words_of_span c.args.spans.now) payload) third)

pub returns-clause-rest : goal.returns-clause-rest
returns-clause-rest c =
    let out = c.args.out.now in
    let two = 2 * length c.args.spans.now in
    let m = two + words_for (length c.args.payload.now) in
    let room : 3 + m ≤ length out = search rules in
    let is : c.build_round.result ≡ 3 + m = omega (arith, c.build_round.ensures.words) in
    let kept = end_kept out c.put_spans.new.out 3 (length out - 3) two m (omega (arith, room)) (search rules) (omega (arith, room)) (omega arith) c.put_spans.ensures.rest in
    c.build_round.ensures.rest ∙ (ap (λ j. drop j (put_mid 3 (length out - 3) out c.put_spans.new.out)) is ∙ (kept ∙ ap (λ j. drop j out) (sym is)))

pub returns-clause-carries : goal.returns-clause-carries
returns-clause-carries c =
    let spans = c.args.spans.now in
    let payload = c.args.payload.now in
    let words = flat_map words_of_span spans in
    let third = length spans * 2 ^ 32 in
    let count : high_32 third ≡ length spans = omega arith in
    let fill = ap (λ j. 3 + spans_words j (words ++ words_of payload)) count ∙ ap (λ j. 3 + j) (spans_size spans (words_of payload) c.requires.pages ∙ sym (spans_long spans)) in
    let packet = returns-clause-packet c in
    rw packet (record {
      packet = ranged_carries 9 c.args.tid third words payload (omega arith) (omega (arith, c.requires.size, spans_long spans)) (λ i. omega (arith, c.type_inv.payload i)) fill;
      count_is = count;
      spans_are = spans_read spans (words_of payload) c.requires.pages;
    })
