use Rattle.std.proofs.Common.{sym, ap, subst, ◌∙◌, arith, take}
use Rattle.channel_model.specs.WireFormat.{under_own}
use Rattle.channel_protocol.specs.Paged.{LaysSome}
use Rattle.device_packets.specs.Said.{said_item}
use Rattle.net_format.specs.Nets.{back_in_form}
use Rattle.net_format.specs.PageNets.{message_of}
use Rattle.device_net.proofs.page_nets.write_net_message.Goals as goal

pub write_back-requires-clause-formed : goal.write_back-requires-clause-formed
write_back-requires-clause-formed c = ap back_in_form (sym c.in-Some.is) ∙ c.requires.formed

pub returns-in-Some-clause-value : goal.returns-in-Some-clause-value
returns-in-Some-clause-value c =
    subst (λ o. LaysSome said_item (take c.write_back.result.packet c.write_back.new.out) (take c.write_back.result.words c.write_back.new.page) c.write_back.result.lent (under_own c.args.own (message_of o))) (sym c.in-Some.is) (omega (arith, c.write_back.ensures.is_packet.two), c.write_back.ensures.value)
