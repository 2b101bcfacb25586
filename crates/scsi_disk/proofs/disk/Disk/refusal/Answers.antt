use Rattle.std.proofs.Common.{sym, ap, ◌∙◌}
use Rattle.scsi_disk.specs.DiskModel.{refusal_of}
use Rattle.scsi_disk.specs.FiniteMap.{stands_for}
use Rattle.scsi_disk.proofs.disk.Disk.refusal.Goals as goal

pub returns-in-Read : goal.returns-in-Read
returns-in-Read c = c.read_refusal.ensures c.args.out.now ∙ ap (λ command. refusal_of (stands_for c.args.self.now) command c.args.out.now) (sym c.in-Read.is)
