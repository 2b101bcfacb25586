use Rattle.std.proofs.Common.{◌≡◌, List, ℕ, take, rules, ap, ◌∙◌}
use Rattle.scsi_disk.specs.DiskModel.{long_capacity}
use Rattle.scsi_disk.specs.FiniteMap.{stands_for}
use Rattle.scsi_disk.proofs.disk.Disk.long_capacity.Goals as goal

pub returns-clause-value : goal.returns-clause-value
returns-clause-value c =
    let all : c.bytes.result.now ≡ long_capacity (stands_for c.args.self.now) = search rules in
    c.first.ensures.value ∙ ap (λ (bytes : List ℕ). take c.args.allocation bytes) all
