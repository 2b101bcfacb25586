use Rattle.std.proofs.Common.{◌≡◌, ◌+◌, ◌-◌, ◌*◌, drop}
use Rattle.scsi_disk.specs.FiniteMap.{with_blocks}
use Rattle.scsi_disk.proofs.store.Store.write.Given as goal

abbrev pub invariant-loop-i : goal.invariant-loop-i
invariant-loop-i l = record {
  blocks : l.self.blocks ≡ l.initial.self.blocks;
  written : with_blocks l.self.written (l.lba + l.i) (l.count - l.i) (drop (512 * l.i) l.out) ≡ with_blocks l.initial.self.written l.lba l.count l.out;
}
