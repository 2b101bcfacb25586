use Rattle.std.proofs.Common.{◌≡◌, ◌∷◌, ◌+◌, ◌-◌, ◌++◌, suc, ap, ◌∙◌, subst, arith, length, codes, take, IfSome}
use Rattle.contact.specs.Versions.{IsVersion}
use Rattle.bus_script.specs.Report.{version_text, versions_text}
use Rattle.bus_script.proofs.Tried.{left, left_next, known_next, told_step}
use Rattle.bus_script.proofs.writing.push_tried.Goals as goal

pub loop-preserved : goal.loop-preserved
loop-preserved c =
    let version = c.in-Some.version in
    let next = c.next_version-next in
    let known = subst (λ o. IfSome o (λ v. IsVersion v.0)) c.in-Some.is c.loop.invariant.known in
    let on : left c.loop.next ≡ version.0 ∷ left next.result = ap left c.in-Some.is ∙ left_next version next.result known next.ensures.last next.ensures.lower next.ensures.next in
    let more : c.args.count - c.loop.counter ≡ suc (c.args.count - (c.loop.counter + 1)) = omega (arith, c.loop-test.true) in
    let text : c.push_version.new.text.items ≡ (c.loop.text.items ++ codes " ") ++ version_text version.0 =
    c.in_ok-push_version-in-Some.ensures.text ∙ ap (λ t. t ++ version_text version.0) c.in_ok-extend_from_slice-in-Some.ensures.items in
    record {
      told = ap (λ t. t ++ versions_text (take (c.args.count - (c.loop.counter + 1)) (left next.result))) text
          ∙ told_step c.loop.text.items version.0 _ _ next.result (left c.loop.next) on more ∙ c.loop.invariant.told;
      short = omega (arith, c.in_ok-push_version-in-Some.ensures.short, c.in_ok-extend_from_slice-in-Some.ensures.len, ap length on, c.loop.invariant.short);
      known = known_next version.0 next.result next.ensures.lower;
    }
