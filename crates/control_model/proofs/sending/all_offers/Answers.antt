use Rattle.std.proofs.Common.{◌∙◌, ◌∷◌, [], length, ap, arith, length-append}
use Rattle.control_model.proofs.PlanLaws.{offers_length}
use Rattle.control_model.specs.Messages.{delivered}
use Rattle.control_model.proofs.sending.all_offers.Goals as goal

pub returns-clause-few : goal.returns-clause-few
returns-clause-few c =
    let all = ap length c.in_ok-push.ensures.items in
    let one = length-append c.in_ok-sent.sent.items (delivered ∷ []) in
    let each = ap length c.in_ok-sent.ensures ∙ offers_length 1 c.kinds.result.now in
    let kinds = ap length c.kinds.ensures.kinds in
    omega (arith, all, one, each, kinds, c.kinds.ensures.few)
