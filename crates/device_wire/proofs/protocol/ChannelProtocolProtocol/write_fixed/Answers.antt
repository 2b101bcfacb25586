use Rattle.std.proofs.Common.{[], take, ap, subst, ◌∙◌}
use Rattle.page_kept.specs.Items.{item_of}
use Rattle.channel_protocol.specs.Listed.{answer_in}
use Rattle.channel_protocol.specs.Paged.{LaysSome}
use Rattle.device_wire.proofs.ProtocolLaws.{kind_in}
use Rattle.device_wire.proofs.protocol.ChannelProtocolProtocol.write_fixed.Goals as goal

pub returns-clause-back : goal.returns-clause-back
returns-clause-back g c lends n =
    let k = ap kind_in c.self.view_is in
    subst (λ x. LaysSome g.W.Wire.said (take c.write_fixed.result c.write_fixed.new.out) [] n (answer_in ((g.W.Wire.model x).format.fixed (g.W.Wire.said (item_of c.args.packet.now c.args.words.now))))) k
    (c.write_fixed.ensures.back (ap (λ x. (g.W.Wire.model x).lends) k ∙ lends) n)
