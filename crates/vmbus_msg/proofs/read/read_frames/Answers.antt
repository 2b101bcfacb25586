use Rattle.std.proofs.Common.{◌≡◌, ◌+◌, ◌-◌, ◌*◌, length, ap, ◌∙◌, arith}
use Rattle.std.proofs.lemmas.List.{length_push}
use Rattle.wire_table.specs.Rows.{numbers_in}
use Rattle.wire_table.proofs.NumberLaws.{numbers_more, numbers_all}
use Rattle.vmbus_msg.proofs.read.read_frames.Goals as goal

pub loop-i-preserved : goal.loop-i-preserved
loop-i-preserved c =
    let fs = c.loop-i.frames in
    let eight : 8 * c.loop-i.i + 8 - 8 * c.loop-i.i ≡ 8 = omega arith in
    record {
      count = ap length c.push.ensures ∙ (length_push fs c.get_at.result ∙ ap (λ k. k + 1) c.loop-i.invariant.count);
      so_far = rw (c.push.ensures, c.get_at.ensures.value, eight) (numbers_more 8 c.args.count c.loop-i.i c.args.bytes.now fs (numbers_in 8 c.args.count c.args.bytes.now) (omega arith) c.loop-i.invariant.so_far);
    }

pub returns : goal.returns
returns c = numbers_all 8 c.args.count c.loop-i.i c.args.bytes.now c.loop-i.frames (numbers_in 8 c.args.count c.args.bytes.now) (omega arith) c.loop-i.invariant.so_far
