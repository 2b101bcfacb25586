use Rattle.std.proofs.Common.{◌∙◌, Some, ap}
use Rattle.script_lines.specs.declared.line.Ask.TheVariants.{Disk as AskDisk}
use Rattle.device_kinds.proofs.KindLaws.{disk_reply_fits}
use Rattle.test_devices.proofs.device_protocols_tests.disk_round.Goals as goal

pub write_answer-back-requires-clause-fits : goal.write_answer-back-requires-clause-fits
write_answer-back-requires-clause-fits g c =
    let got = c.in-Disk in
    (AskDisk got.request, c.read.ensures ∙ ap Some got.is, rw c.requires.kind (disk_reply_fits got.request c.apply.result c.apply.ensures.fits))
