use Rattle.std.proofs.Common.{◌∙◌, ap, subst}
use Rattle.control_model.specs.Guest.{GuestSeen}
use Rattle.control_model.specs.Plan.{BusPlan}
use Rattle.control_laws.specs.Over.{IsOver}
use Rattle.sock_path.proofs.connection.connect.Goals as goal

pub returns-clause-controls : goal.returns-clause-controls
returns-clause-controls g c =
    let over = c.end-over.ensures in
    let made = ap (λ (x : GuestSeen). x.plan) c.in_ok-path.ensures.guest in
    let planned = c.in_ok-path-5.ensures.ran.plan ∙ (c.in_ok-path-4.ensures.ran.plan ∙ (c.in_ok-path-3.ensures.ran.plan ∙ (c.in_ok-path-2.ensures.ran.plan ∙ made))) in
    let guest = ap (λ (x : GuestSeen). x.plan) over.guest ∙ planned in
    record { guest_plan = guest; host_plan = over.plan ∙ guest; over = subst (λ (plan : BusPlan). IsOver plan c.end-over.result.guest c.end-over.result.host) guest over.over }
