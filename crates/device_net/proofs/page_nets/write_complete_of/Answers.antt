use Rattle.std.proofs.Common.{take, Ok, sym, ap, subst, ◌∙◌, arith}
use Rattle.channel_protocol.specs.Listed.{message_in}
use Rattle.channel_protocol.specs.Paged.{LaysSome}
use Rattle.device_packets.specs.Said.{said_item}
use Rattle.net_format.specs.Nets.{in_form}
use Rattle.net_format.specs.PageNets.{fixed_by, rndis_back}
use Rattle.net_format.proofs.NetLaws.{complete_formed}
use Rattle.device_packets.proofs.SaidLaws.{none_so}
use Rattle.device_net.proofs.NetCameLaws.{not_initialize}
use Rattle.device_net.proofs.page_nets.write_complete_of.Goals as goal

pub write_back-requires-clause-formed : goal.write_back-requires-clause-formed
write_back-requires-clause-formed c = ap in_form c.initialize_complete.ensures.value ∙ complete_formed _ c.initialize_complete.ensures.id

-- the message of an initialize
pub returns-in-Initialize-clause-value : goal.returns-in-Initialize-clause-value
returns-in-Initialize-clause-value c id =
    subst (λ m. LaysSome said_item (take c.write_back.result.packet c.write_back.new.out) (take c.write_back.result.words c.write_back.new.page) c.write_back.result.lent (message_in c.args.own (fixed_by id (Ok m)))) (sym c.in-Initialize.is)
    (omega (arith, c.write_back.ensures.is_packet.two), λ i lays. c.write_back.ensures.value i lays ∙ ap (rndis_back c.args.own) c.initialize_complete.ensures.value)

pub returns-in_default-clause-value : goal.returns-in_default-clause-value
returns-in_default-clause-value c id =
    none_so _ _ _ _ (ap (message_in c.args.own) (not_initialize id c.args.m.now c.in_default.not-Initialize)) (ap (λ n. take n c.args.out.now) c.bare.ensures.packet)
