use Rattle.std.proofs.Common.{take, sym, ap, subst}
use Rattle.channel_protocol.specs.Listed.{message_in}
use Rattle.channel_protocol.specs.Paged.{LaysSome}
use Rattle.device_packets.specs.Said.{said_item}
use Rattle.net_format.specs.PageNets.{fixed_by}
use Rattle.device_packets.proofs.SaidLaws.{none_so}
use Rattle.device_net.proofs.page_nets.write_complete.Goals as goal

pub returns-in-Ok-clause-value : goal.returns-in-Ok-clause-value
returns-in-Ok-clause-value c id =
    subst (λ r. LaysSome said_item (take c.write_complete_of.result.packet c.write_complete_of.new.out) (take c.write_complete_of.result.words c.write_complete_of.new.page) c.write_complete_of.result.lent (message_in c.args.own (fixed_by id r))) (sym c.in-Ok.is) (c.write_complete_of.ensures.value id)

pub returns-in-Err-clause-value : goal.returns-in-Err-clause-value
returns-in-Err-clause-value c id =
    none_so _ _ _ _ (ap (λ r. message_in c.args.own (fixed_by id r)) c.in-Err.is) (ap (λ n. take n c.args.out.now) c.bare.ensures.packet)
