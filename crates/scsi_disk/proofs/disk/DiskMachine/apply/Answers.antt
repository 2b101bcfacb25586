use Rattle.std.proofs.Common.{◌≡◌, ℕ, List, Option, sym, ap, ◌∙◌}
use Rattle.scsi_disk.specs.FiniteMap.{Kept, stands_for, with_written, written_after, kept_after}
use Rattle.scsi_disk.specs.Commands.{command_of}
use Rattle.scsi_disk.specs.declared.command.Command.{Command}
use Rattle.scsi_disk.proofs.ModelLaws.{stands_for-kept_after}
use Rattle.scsi_disk.proofs.disk.DiskMachine.apply.Goals as goal

pub returns-clause-model : goal.returns-clause-model
returns-clause-model c =
    let k = c.args.self.now in
    let q = c.args.request.now in
    let F : Option Command → List ℕ → Kept = λ command out. with_written k (written_after k command out) in
    let same : c.serve.new.self ≡ kept_after k q =
    c.serve.ensures.kept ∙ ap (λ command. F command c.bytes-out.result.now) (sym c.in-Some.is ∙ c.of.ensures) ∙ ap (F (command_of q.cdb)) c.bytes-out.ensures.value in
    ap stands_for same ∙ stands_for-kept_after k q
