use Rattle.std.proofs.Common.{◌≡◌, ◌≤◌, length}
use Rattle.std.specs.Map.{keys_of}
use Rattle.scsi_disk.specs.DiskModel.{first_written}
use Rattle.scsi_disk.proofs.store.Store.fresh.Given as goal

abbrev pub invariant-loop-i : goal.invariant-loop-i
invariant-loop-i l = record { counted : l.fresh ≡ length (first_written (keys_of l.self.written) l.lba l.i); few : l.fresh ≤ l.i }
