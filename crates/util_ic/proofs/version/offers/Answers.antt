use Rattle.std.proofs.Common.{ap, sym, ◌∙◌, arith}
use Rattle.util_ic.specs.Versions.{same, version_at}
use Rattle.util_ic.proofs.VersionLaws.{offered_here, offered_later, offered_nowhere}
use Rattle.util_ic.proofs.version.offers.Goals as goal

pub loop-i-preserved : goal.loop-i-preserved
loop-i-preserved c =
    let v = c.args.version in
    let read = ap (same v) (c.first_version.ensures ∙ ap version_at c.split_at.ensures.back) in
    offered_later c.args.count c.loop-i.i c.args.versions.now v _ (omega arith) c.loop-i.invariant (sym read ∙ (sym c.same.ensures ∙ c.if-same.false))

pub returns-then-same-clause-value : goal.returns-then-same-clause-value
returns-then-same-clause-value c =
    let v = c.args.version in
    let read = ap (same v) (c.first_version.ensures ∙ ap version_at c.split_at.ensures.back) in
    offered_here c.args.count c.loop-i.i c.args.versions.now v _ (omega arith) c.loop-i.invariant (sym read ∙ (sym c.same.ensures ∙ c.if-same.true))

pub returns-clause-value : goal.returns-clause-value
returns-clause-value c = offered_nowhere c.args.count c.loop-i.i c.args.versions.now c.args.version _ (omega arith) c.loop-i.invariant
