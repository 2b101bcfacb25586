use Rattle.std.proofs.Common.{sym, ◌∙◌}
use Rattle.scsi_disk.specs.FiniteMap.{is_among}
use Rattle.scsi_disk.proofs.RangeLaws.{any_step}
use Rattle.scsi_disk.proofs.disk.has_bad.Goals as goal

pub loop-i-preserved : goal.loop-i-preserved
loop-i-preserved c =
    any_step (is_among c.args.bad.now.keys) c.args.lba c.loop-i.i c.args.count _ c.loop-i-test.true c.loop-i.invariant (sym c.contains.ensures ∙ c.if-contains.false)
