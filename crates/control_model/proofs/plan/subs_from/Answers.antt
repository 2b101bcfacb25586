use Rattle.std.proofs.Common.{◌∙◌, sym}
use Rattle.control_model.proofs.SubLaws.{behind_some, behind_all}
use Rattle.control_model.proofs.plan.subs_from.Goals as goal

pub returns-in-Some : goal.returns-in-Some
returns-in-Some c = behind_some c.args.openings.now c.args.start c.in-Some.count (sym c.first_place.ensures ∙ c.in-Some.is)

pub returns-in-None : goal.returns-in-None
returns-in-None c = behind_all c.args.openings.now c.args.start (sym c.first_place.ensures ∙ c.in-None.is)
