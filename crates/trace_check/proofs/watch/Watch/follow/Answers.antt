use Rattle.std.proofs.Common.{List, [], ◌∷◌, ◌++◌, Option, sym, subst}
use Rattle.trace_check.specs.declared.watch.Found.{Found}
use Rattle.trace_check.specs.Following.{FollowsBy}
use Rattle.trace_check.proofs.Following.{found_stays, follow_more}
use Rattle.trace_check.proofs.watch.Watch.follow.Goals as goal

pub returns-then-is_some-clause-line : goal.returns-then-is_some-clause-line
returns-then-is_some-clause-line c d lines f =
    found_stays d lines (record { number = c.args.number; what = c.args.what }) c.args.self.now.wrong c.args.self.now.checker (cc (c.is_some.ensures, c.if-is_some.true)) f

pub returns-clause-line : goal.returns-clause-line
returns-clause-line c d lines f =
    subst (λ (w : Option Found). FollowsBy w d (lines ++ record { number = c.args.number; what = c.args.what } ∷ []) c.lead-why.new.self) (sym c.found_at-self.ensures)
    (follow_more d lines c.args.number c.args.what c.args.self.now.wrong c.args.self.now.checker c.lead-why.new.self c.lead-why.result c.lead-why.ensures.leads c.lead-why.ensures.steps (cc (c.is_some.ensures, c.if-is_some.false)) f)
