use Rattle.std.proofs.Common.{◌≡◌, suc, ◌+◌, ◌-◌, drop, arith, rules}
use Rattle.pkt_desc.specs.Ranges.{spans_words}
use Rattle.pkt_desc.proofs.RangeLaws.{spans_more, spans_none, past}
use Rattle.pkt_desc.proofs.ranges.spans_fit.Goals as goal

pub returns-then-at-payload : goal.returns-then-at-payload
returns-then-at-payload c =
    let words = c.args.words.now in
    let left = c.args.count - c.loop.counter in
    let more : left ≡ suc (c.args.count - (c.loop.counter + 1)) = omega (arith, c.loop-test.true) in
    let step = spans_more words left (c.args.count - (c.loop.counter + 1)) c.loop.at more in
    past (3 + spans_words c.args.count (drop 3 words)) c.args.offset8 (omega (arith, step, c.loop.invariant.left, c.if-at-payload.true, c.from-payload.ensures))

pub loop-preserved : goal.loop-preserved
loop-preserved c =
    let words = c.args.words.now in
    let left = c.args.count - c.loop.counter in
    let more : left ≡ suc (c.args.count - (c.loop.counter + 1)) = omega (arith, c.loop-test.true) in
    let step = spans_more words left (c.args.count - (c.loop.counter + 1)) c.loop.at more in
    record {
      left = rw c.span_words-at.ensures (omega (arith, step, c.loop.invariant.left));
      near = omega (arith, c.span_words-at.ensures, c.type_inv.words c.loop.at, c.if-at-payload.false, c.from-payload.ensures);
    }

pub returns : goal.returns
returns c =
    let none = spans_none (drop c.loop.at c.args.words.now) (c.args.count - c.loop.counter) (omega (arith, c.loop-test.false)) in
    let is : c.loop.at ≡ 3 + spans_words c.args.count (drop 3 c.args.words.now) = omega (arith, none, c.loop.invariant.left) in
    rw is (search rules)
