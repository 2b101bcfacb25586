use Rattle.std.proofs.Common.{◌≡◌, ◌+◌, ◌-◌, ◌≤◌, ◌∙◌, ◌∷◌, ◌++◌, set, length, take, drop, ap, arith, rules}
use Rattle.std.proofs.lemmas.List.{length-take-le, length-drop}
use Rattle.vm_page.specs.Words.{words_for, words_of}
use Rattle.pkt_desc.proofs.RoundLaws.{three_then, three_kept, end_kept}
use Rattle.pkt_desc.proofs.ranged.build_round.Goals as goal

pub returns-clause-packet : goal.returns-clause-packet
returns-clause-packet c =
    let payload = c.args.payload.now in
    let out = c.args.out.now in
    let r = c.args.ranges in
    let n = words_for (length payload) in
    let is : c.div_ceil.result ≡ n = search rules in
    let room : 3 + r + n ≤ length out = search rules in
    let long : length (take r (drop 3 out)) ≡ r = length-take-le r (drop 3 out) (omega (arith, room, length-drop 3 out)) in
    let put = three_then out c.put_payload.new.out (words_of payload) c.first_word.result c.args.tid c.args.third r n _ room (search rules) c.put_payload.ensures.words in
    let first = rw is at c.first_word.ensures in
    rw (is, long) (put ∙ ap (λ w. w ∷ c.args.tid ∷ c.args.third ∷ (take r (drop 3 out) ++ words_of payload)) first)

pub returns-clause-rest : goal.returns-clause-rest
returns-clause-rest c =
    let payload = c.args.payload.now in
    let out = c.args.out.now in
    let r = c.args.ranges in
    let n = words_for (length payload) in
    let is : c.div_ceil.result ≡ n = search rules in
    let three = set (set (set out 0 c.first_word.result) 1 c.args.tid) 2 c.args.third in
    let long : length three ≡ length out = search rules in
    let kept = end_kept three c.put_payload.new.out (3 + r) (length three - (3 + r)) n n (omega (arith, long)) (search rules) (omega (arith, long)) (omega arith) c.put_payload.ensures.rest in
    rw is (kept ∙ three_kept out c.first_word.result c.args.tid c.args.third (3 + r + n) (omega arith))
