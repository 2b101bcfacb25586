use Rattle.std.proofs.Common.{false, sym, subst, ◌∙◌}
use Rattle.device_net.specs.Came.{IsCame, IsTested}
use Rattle.device_net.proofs.CameLaws.{and_waits}
use Rattle.device_net.proofs.NetCameLaws.{waits_tested}
use Rattle.device_net.proofs.NetFixedLaws.{some_waits}
use Rattle.device_net.proofs.net_wire.NetWireWire.is_waiting.Goals as goal

pub returns-in-Other : goal.returns-in-Other
returns-in-Other c i same =
    let t = subst (λ x. IsCame x c.args.packet.now) c.in-Other.is c.what_came.ensures in
    sym (and_waits i ∙ waits_tested i false false false false (subst (IsTested false false false false) (sym same) t))

pub returns-in_default : goal.returns-in_default
returns-in_default c i same = sym (and_waits i ∙ some_waits i c.what_came.result (subst (IsCame c.what_came.result) (sym same) c.what_came.ensures) c.in_default.not-Other)
