use Rattle.std.proofs.Common.{ℕ, List, [], ap, ◌∙◌}
use Rattle.scsi_disk.specs.Stored.{Stored}
use Rattle.scsi_disk.specs.FiniteMap.{Kept, stands_for}
use Rattle.scsi_disk.proofs.SetupLaws.{stands_for-made}
use Rattle.scsi_disk.proofs.disk.Disk.make.Goals as goal

pub returns-clause-model : goal.returns-clause-model
returns-clause-model c =
    let F : Stored → List ℕ → Kept = λ s keys. record { blocks = s.blocks; bad = keys; written = s.written } in
    ap (λ s. stands_for (F s c.in_ok-places.places.keys)) c.in_ok-store.ensures
    ∙ ap (λ ks. stands_for (F (record { blocks = c.args.blocks; written = [] }) ks)) c.in_ok-places.ensures ∙ stands_for-made c.args.blocks c.args.bad.now
