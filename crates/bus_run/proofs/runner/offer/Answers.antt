use Rattle.std.proofs.Common.{◌≡◌, ◌++◌, ◌∙◌, sym, subst, ap, arith, length}
use Rattle.script_lines.specs.Parts.{offered_by, bads_of}
use Rattle.bus_run.specs.Whole.{AreFresh}
use Rattle.bus_run.proofs.Phases.{fresh_more}
use Rattle.bus_run.proofs.runner.offer.Goals as goal

pub returns-in_ok-push-in-Offer : goal.returns-in_ok-push-in-Offer
returns-in_ok-push-in-Offer c kinds fresh =
    let lines = c.args.lines.now in
    let boxes = c.args.boxes.now.items in
    let spec = c.in-Offer.device in
    let long : c.len.result ≡ length boxes = omega (arith, c.len.ensures, c.args.boxes.now.ok.0) in
    let bad : c.deref.result.now ≡ bads_of (length boxes) lines = c.deref.ensures.value ∙ c.in_ok-bad-in-Offer.ensures ∙ ap (λ n. bads_of n lines) long in
    subst (λ w. AreFresh lines (kinds ++ offered_by w) c.push.new.self.items) (sym c.in-Offer.is)
    (fresh_more lines kinds boxes c.push.new.self.items spec c.deref.result.now c.in_ok-make-in-Offer.field-0 fresh bad c.in_ok-make-in-Offer.ensures c.in_ok-push-in-Offer.ensures.items)
