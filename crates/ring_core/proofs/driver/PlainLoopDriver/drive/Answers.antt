use Rattle.ring_core.proofs.Driving.{drive_leaves, may_first}
use Rattle.ring_core.proofs.driver.PlainLoopDriver.drive.Goals as goal

pub steps_on-requires-clause-may : goal.steps_on-requires-clause-may
steps_on-requires-clause-may g c = may_first c.requires

pub returns : goal.returns
returns g c = drive_leaves c.requires c.steps_on.ensures.goes c.steps_on.ensures.pages c.steps_on.ensures.idle
