use Rattle.std.proofs.Common.{◌≡◌, ◌+◌, ◌-◌}
use Rattle.std.specs.List.{list_any, range_with_len}
use Rattle.scsi_disk.specs.FiniteMap.{is_among}
use Rattle.scsi_disk.proofs.disk.has_bad.Given as goal

abbrev pub invariant-loop-i : goal.invariant-loop-i
invariant-loop-i l =
    list_any (is_among l.bad.keys) (range_with_len (l.lba + l.i) (l.count - l.i))
    ≡ list_any (is_among l.bad.keys) (range_with_len l.lba l.count)
