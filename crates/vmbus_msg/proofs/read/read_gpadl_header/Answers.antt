use Rattle.std.proofs.Common.{◌≡◌, ◌-◌, ◌/◌, ◌∙◌, length, ap}
use Rattle.wire_table.proofs.NumberLaws.{length-numbers_in}
use Rattle.vmbus_msg.proofs.SizeLaws.{header_form}
use Rattle.vmbus_msg.proofs.read.read_gpadl_header.Goals as goal

pub invariant_of-header : goal.invariant_of-header
invariant_of-header c =
    let b = c.args.bytes.now in
    let fs = c.read_frames-frames.result in
    let count : length fs ≡ (length b - 28) / 8 = ap length c.read_frames-frames.ensures ∙ length-numbers_in 8 ((length b - 28) / 8) c.split_at.result.1.now in
    record { in_form = header_form b c.range_buflen.result c.rangecount.result fs c.in_ok-has_header.ensures c.range_buflen.ensures c.rangecount.ensures count }
