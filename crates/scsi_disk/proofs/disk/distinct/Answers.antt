use Rattle.std.proofs.Common.{fold, nat_eq, [], ap, ◌∙◌, arith}
use Rattle.std.proofs.lemmas.List.{take_all}
use Rattle.indexmap.specs.IndexSet.{insert_key}
use Rattle.scsi_disk.proofs.disk.distinct.Goals as goal

pub returns : goal.returns
returns c = c.loop-place.invariant ∙ ap (fold (insert_key nat_eq) []) (take_all c.loop-place.place-index c.args.places.now (omega arith))
