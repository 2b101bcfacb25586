use Rattle.std.proofs.Common.{◌∙◌}
use Rattle.ring_core.proofs.Driving.{drive_leaves, goes_as, goes_more, may_first}
use Rattle.ring_core.proofs.driver.TakeLoopsDriver.drive.Goals as goal

pub steps_at-requires-clause-may : goal.steps_at-requires-clause-may
steps_at-requires-clause-may g c = may_first c.requires

pub returns : goal.returns
returns g c =
    let trans = g.met.S.Seatlike.same_trans in
    drive_leaves c.requires
    (goes_more trans c.steps_at.ensures.goes (goes_more trans c.steps_at-2.ensures.goes (goes_more trans (goes_as c.take_back.ensures.machine c.steps_at-3.ensures.goes) c.steps_on.ensures.goes)))
    (c.steps_on.ensures.pages ∙ c.take_back.ensures.pages) c.steps_on.ensures.idle
