use Rattle.std.proofs.Common.{◌≡◌, ◌∙◌}
use Rattle.script_phases.specs.Says.{said_to, is_rescinded}
use Rattle.phase_plan.proofs.Noting.{rescinded_is}
use Rattle.control_model.proofs.planning.fate_of.Goals as goal

pub returns : goal.returns
returns c device part told =
    let gone : c.is_some.result ≡ is_rescinded device part = c.is_some.ensures ∙ rescinded_is (said_to device part) c.args.lines.now told in
    (λ i. record { rescinded = gone i; vp = told.vp i })
