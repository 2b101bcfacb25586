use Rattle.std.proofs.Common.{◌≡◌, ◌+◌, ◌-◌, ◌*◌, ◌++◌, length}
use Rattle.std.specs.List.{flat_map, range_with_len}
use Rattle.scsi_disk.specs.FiniteMap.{block_in}
use Rattle.scsi_disk.proofs.store.Store.read.Given as goal

abbrev pub invariant-loop-i : goal.invariant-loop-i
invariant-loop-i l = record {
  len : length l.chunk ≡ 512 * l.i;
  all : l.chunk ++ flat_map (block_in l.self.written) (range_with_len (l.lba + l.i) (l.count - l.i)) ≡ flat_map (block_in l.self.written) (range_with_len l.lba l.count);
}
