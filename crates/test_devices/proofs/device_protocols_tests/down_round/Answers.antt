use Rattle.std.proofs.Common.{◌∙◌, Some, ap}
use Rattle.script_lines.specs.declared.line.Ask.TheVariants.{Ic as AskIc}
use Rattle.device_kinds.proofs.KindLaws.{down_fits}
use Rattle.test_devices.proofs.device_protocols_tests.down_round.Goals as goal

pub write_answer-back-requires-clause-fits : goal.write_answer-back-requires-clause-fits
write_answer-back-requires-clause-fits g c =
    (AskIc c.in-Ic.ask, c.read-asked.ensures ∙ ap Some c.in-Ic.is, rw c.requires (down_fits c.in-Ic.ask c.apply.result c.apply.ensures.fits))
