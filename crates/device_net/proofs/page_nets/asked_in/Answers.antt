use Rattle.std.proofs.Common.{sym, ap, subst, ◌∙◌}
use Rattle.net_format.specs.Nets.{asked_by}
use Rattle.device_net.specs.Came.{IsCame}
use Rattle.device_net.proofs.NetCameLaws.{read_message}
use Rattle.device_net.proofs.NetFixedLaws.{none_asked}
use Rattle.device_net.proofs.page_nets.asked_in.Goals as goal

pub returns-in-Rndis : goal.returns-in-Rndis
returns-in-Rndis c =
    let p = c.args.packet.now in
    let t = subst (λ x. IsCame x p) c.in-Rndis.is c.what_came.ensures in
    record { value = c.asked.ensures ∙ (ap asked_by c.message.ensures ∙ sym (read_message p c.args.words.now t)) }

pub returns-in_default : goal.returns-in_default
returns-in_default c = record { value = sym (none_asked c.args.packet.now c.args.words.now c.what_came.result c.what_came.ensures c.in_default.not-Rndis) }
