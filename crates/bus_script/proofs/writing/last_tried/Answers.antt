use Rattle.std.proofs.Common.{◌≡◌, ◌∷◌, ◌+◌, ◌-◌, suc, ap, ◌∙◌, subst, arith, IfSome}
use Rattle.contact.specs.Versions.{IsVersion}
use Rattle.bus_script.proofs.Tried.{left, left_next, known_next, last_step}
use Rattle.bus_script.proofs.writing.last_tried.Goals as goal

pub loop-preserved : goal.loop-preserved
loop-preserved c =
    let version = c.in-Some.version in
    let next = c.next_version-next in
    let known = subst (λ o. IfSome o (λ v. IsVersion v.0)) c.in-Some.is c.loop.invariant.known in
    let on : left c.loop.next ≡ version.0 ∷ left next.result = ap left c.in-Some.is ∙ left_next version next.result known next.ensures.last next.ensures.lower next.ensures.next in
    let more : c.args.count - c.loop.counter ≡ suc (c.args.count - (c.loop.counter + 1)) = omega (arith, c.loop-test.true) in
    record {
      last = last_step c.loop.last.0 version.0 _ _ next.result (left c.loop.next) on more ∙ c.loop.invariant.last;
      known = known_next version.0 next.result next.ensures.lower;
    }
