use Rattle.std.proofs.Common.{◌≡◌, nat_eq, take, fold, []}
use Rattle.indexmap.specs.IndexSet.{insert_key}
use Rattle.scsi_disk.proofs.disk.distinct.Given as goal

abbrev pub invariant-loop-place : goal.invariant-loop-place
invariant-loop-place l = l.set.keys ≡ fold (insert_key nat_eq) [] (take l.place-index l.places)
