use Rattle.std.proofs.Common.{◌≡◌, ◌++◌, length, map, take, drop}
use Rattle.vmbus_c.specs.PacketWriting.{part_of}
use Rattle.vmbus_c.proofs.write_packets.put_parts.Given as goal

abbrev pub invariant-loop-i : goal.invariant-loop-i
invariant-loop-i l = record {
  so_far : take l.i l.out ++ map part_of (drop l.i l.parts) ≡ map part_of l.parts;
  len : length l.out ≡ 381;
}
