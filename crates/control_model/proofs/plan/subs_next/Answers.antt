use Rattle.control_model.proofs.SubLaws.{next_is, none_is}
use Rattle.control_model.proofs.plan.subs_next.Goals as goal

pub returns-then-is_first_at : goal.returns-then-is_first_at
returns-then-is_first_at c = next_is c.subs_from.result.now c.args.openings.now c.args.place c.is_first_at.result c.subs_from.ensures c.is_first_at.ensures.first c.if-is_first_at.true

pub returns : goal.returns
returns c = none_is c.args.openings.now c.args.place c.is_first_at.result c.is_first_at.ensures.first c.if-is_first_at.false
