use Rattle.std.proofs.Common.{◌∙◌, Some, ap}
use Rattle.script_lines.specs.declared.line.Ask.TheVariants.{Net as AskNet}
use Rattle.device_kinds.proofs.KindLaws.{net_reply_fits}
use Rattle.test_devices.proofs.net_protocol_tests.net_round.Goals as goal

pub write_message-len-requires-clause-fits : goal.write_message-len-requires-clause-fits
write_message-len-requires-clause-fits g c =
    let got = c.in-Net in
    (AskNet got.message, c.read-asked.ensures ∙ ap Some got.is, rw c.requires.kind (net_reply_fits got.message c.apply-answered.result c.apply-answered.ensures.fits))

pub write_answer-back-requires-clause-fits : goal.write_answer-back-requires-clause-fits
write_answer-back-requires-clause-fits g c =
    let got = c.in-Net in
    (AskNet got.message, c.read-asked.ensures ∙ ap Some got.is, rw c.requires.kind (net_reply_fits got.message c.apply-answered.result c.apply-answered.ensures.fits))
