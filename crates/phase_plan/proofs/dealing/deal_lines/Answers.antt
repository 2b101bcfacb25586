use Rattle.std.proofs.Common.{◌≡◌, ◌∙◌, ◌+◌, ◌++◌, List, length, take, drop, ap, sym, subst, arith}
use Rattle.phase_plan.specs.declared.device_lines.DeviceLines.{DeviceLines}
use Rattle.phase_plan.specs.Told.{AreDealt, DealsOn}
use Rattle.phase_plan.proofs.Noting.{dealt_next, written}
use Rattle.phase_plan.proofs.dealing.deal_lines.Goals as goal

pub loop-line-preserved : goal.loop-line-preserved
loop-line-preserved c =
    let part = c.args.part.now in
    let i = c.loop-line.line-index in
    let line = c.line-item.result in
    let items = c.loop-line.devices.items in
    let new = c.deal_line.new.devices in
    let on : DealsOn line.what items new = subst (λ (ds : List DeviceLines). DealsOn line.what ds new) c.deref_mut.ensures.value c.in_ok-deal_line.ensures in
    let same : take c.loop-line.devices.len (new ++ drop (length new) items) ≡ new = written c.loop-line.devices.len items new (omega (arith, c.loop-line.devices.ok)) on.count in
    record {
      count = ap length same ∙ on.count ∙ c.loop-line.invariant.count;
      dealt = subst (AreDealt (take (i + 1) part)) (sym same) (dealt_next part i line items new c.loop-line-test.true c.line-item.is c.loop-line.invariant.dealt on);
    }
