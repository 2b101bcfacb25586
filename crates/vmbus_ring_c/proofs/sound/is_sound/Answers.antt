use Rattle.std.proofs.Common.{sym, ◌∙◌}
use Rattle.vmbus_ring_c.proofs.Sounding.{says_sound, sound_says}
use Rattle.vmbus_ring_c.proofs.sound.is_sound.Goals as goal

pub returns-clause-yes : goal.returns-clause-yes
returns-clause-yes c h = says_sound c.args.m.now c.fits_ring-ring.result c.fits_stage-stage.result c.is_word.ensures c.fits_ring-ring.ensures c.fits_stage-stage.ensures (sym c.both.ensures ∙ h)

pub returns-clause-no : goal.returns-clause-no
returns-clause-no c s = c.both.ensures ∙ sound_says c.args.m.now c.fits_ring-ring.result c.fits_stage-stage.result c.fits_ring-ring.ensures c.fits_stage-stage.ensures s
