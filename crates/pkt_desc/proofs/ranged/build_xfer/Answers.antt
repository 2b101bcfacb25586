use Rattle.std.proofs.Common.{◌≡◌, ◌+◌, ◌-◌, ◌*◌, ◌^◌, ◌<◌, ◌≤◌, ◌∙◌, length, map, drop, sym, ap, arith, rules}
use Rattle.std.proofs.lemmas.List.{take_at, length-map}
use borrow.Rule.Slice.PartMut.{put_mid}
use Rattle.vm_page.specs.Words.{words_for, words_of}
use Rattle.pkt_desc.specs.Ranges.{high_32}
use Rattle.pkt_desc.specs.Built.{range_word, range_of, ranged_packet}
use Rattle.pkt_desc.proofs.RoundLaws.{behind_three, end_kept, ranged_carries}
use Rattle.pkt_desc.proofs.ranged.build_xfer.Goals as goal

pub returns-clause-packet : goal.returns-clause-packet
returns-clause-packet c =
    let out = c.args.out.now in
    let payload = c.args.payload.now in
    let n = length c.args.ranges.now in
    let room : 3 + n ≤ length out = search rules in
    let third : c.pair-third.result ≡ c.args.pageset + length c.args.ranges.now * 2 ^ 32 = search rules in
    let ranges = behind_three out c.put_ranges.new.out (length out - 3) n (omega (arith, room)) (search rules) ∙ c.put_ranges.ensures.words in
    c.build_round.ensures.packet ∙ (ap (λ l. ranged_packet 7 c.args.tid c.pair-third.result l payload) ranges ∙ ap (λ t. ranged_packet 7 c.args.tid t (map range_word c.args.ranges.now) payload) third)

pub returns-clause-rest : goal.returns-clause-rest
returns-clause-rest c =
    let out = c.args.out.now in
    let n = length c.args.ranges.now in
    let m = n + words_for (length c.args.payload.now) in
    let room : 3 + m ≤ length out = search rules in
    let is : c.build_round.result ≡ 3 + m = omega (arith, c.build_round.ensures.words) in
    let kept = end_kept out c.put_ranges.new.out 3 (length out - 3) n m (omega (arith, room)) (search rules) (omega (arith, room)) (omega arith) c.put_ranges.ensures.rest in
    c.build_round.ensures.rest ∙ (ap (λ j. drop j (put_mid 3 (length out - 3) out c.put_ranges.new.out)) is ∙ (kept ∙ ap (λ j. drop j out) (sym is)))

pub returns-clause-carries : goal.returns-clause-carries
returns-clause-carries c =
    let ranges = c.args.ranges.now in
    let payload = c.args.payload.now in
    let words = map range_word ranges in
    let third = c.args.pageset + length ranges * 2 ^ 32 in
    let low : c.args.pageset < 2 ^ 16 = search rules in
    let count : high_32 third ≡ length ranges = omega (arith, low) in
    let long : length words ≡ length ranges = length-map ranges range_word in
    let packet = returns-clause-packet c in
    rw packet (record {
      packet = ranged_carries 7 c.args.tid third words payload (omega arith) (omega (arith, c.requires.size, long)) (λ i. omega (arith, c.type_inv.payload i)) (ap (λ j. 3 + j) (count ∙ sym long));
      pageset_is = omega (arith, low);
      count_is = count;
      ranges_are = ap (map range_of) (take_at words (words_of payload) (length ranges) long) ∙ c.put_ranges.ensures.read;
    })
