use Rattle.std.proofs.Common.{arith}
use Rattle.contact.specs.Versions.{versions, is_tried}
use Rattle.contact.proofs.Trying.{left_more, few_more}
use Rattle.contact.proofs.version.tried.Goals as goal

pub loop-v-preserved : goal.loop-v-preserved
loop-v-preserved c =
    let i = c.loop-v.v-index in
    let one = left_more (is_tried c.args.guest.0 c.args.host.0) versions i 0 c.loop-v-test.true in
    record {
      left = omega (arith, c.loop-v.invariant.left, one, c.tries-count.ensures);
      few = few_more (is_tried c.args.guest.0 c.args.host.0 _) c.loop-v.count i c.tries-count.result c.tries-count.ensures c.loop-v.invariant.few;
    }
