use Rattle.std.proofs.Common.{[], sym, ap, ◌∙◌}
use Rattle.std.specs.Prelude.{if◌then◌else◌}
use Rattle.page_kept.specs.Items.{item_of}
use Rattle.net_format.specs.Nets.{in_form, net_init, request_id_of, with_id}
use Rattle.net_format.specs.PageNets.{rndis_sent}
use Rattle.net_format.proofs.NetLaws.{asked_in_form}
use Rattle.device_net.proofs.net_wire.NetWireWire.write_request.Goals as goal

pub write_sent-requires-clause-formed : goal.write_sent-requires-clause-formed
write_sent-requires-clause-formed c =
    ap in_form (c.under.ensures ∙ ap (λ id. with_id id c.args.message.now) c.request_id.ensures) ∙ asked_in_form c.args.message.now c.args.id c.requires.can

pub returns-clause-value : goal.returns-clause-value
returns-clause-value c i lays =
    let id = c.args.id in
    let m = c.args.message.now in
    c.write_sent.ensures.value i lays ∙ ap (rndis_sent id) (c.under.ensures ∙ ap (λ n. with_id n m) c.request_id.ensures)
    ∙ ap (λ t. if t then rndis_sent id (with_id (request_id_of id) m) else item_of (net_init id) []) (sym c.requires.can)
