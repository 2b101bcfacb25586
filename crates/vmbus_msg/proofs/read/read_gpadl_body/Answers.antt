use Rattle.std.proofs.Common.{◌≡◌, ◌-◌, ◌/◌, ◌∙◌, length, ap, arith}
use Rattle.wire_table.proofs.NumberLaws.{length-numbers_in}
use Rattle.vmbus_msg.proofs.SizeLaws.{body_sizes}
use Rattle.vmbus_msg.proofs.read.read_gpadl_body.Goals as goal

pub invariant_of-body : goal.invariant_of-body
invariant_of-body c =
    let b = c.args.bytes.now in
    let s = body_sizes (length b) c.in_ok-has_frames.ensures in
    let count : length c.read_frames-frames.result ≡ (length b - 16) / 8 = ap length c.read_frames-frames.ensures ∙ length-numbers_in 8 ((length b - 16) / 8) c.split_at.result.1.now in
    record { in_form = (omega (arith, s, count), omega (arith, s, count)) }
