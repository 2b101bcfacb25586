use Rattle.std.proofs.Common.{◌≡◌, ◌-◌, ◌*◌, ◌++◌, drop, length}
use Rattle.wire_table.specs.Rows.{numbers_in}
use Rattle.vmbus_msg.proofs.read.read_frames.Given as goal

abbrev pub invariant-loop-i : goal.invariant-loop-i
invariant-loop-i l = record {
  count : length l.frames ≡ l.i;
  so_far : l.frames ++ numbers_in 8 (l.count - l.i) (drop (8 * l.i) l.bytes) ≡ numbers_in 8 l.count l.bytes;
}
