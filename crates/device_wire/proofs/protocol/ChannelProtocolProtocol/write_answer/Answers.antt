use Rattle.std.proofs.Common.{ap, ◌∙◌}
use Rattle.page_kept.specs.Items.{item_of}
use Rattle.device_wire.proofs.ProtocolLaws.{kind_in}
use Rattle.device_wire.proofs.protocol.ChannelProtocolProtocol.write_answer.Goals as goal

pub returns-clause-back : goal.returns-clause-back
returns-clause-back g c lends n i more lays =
    let k = ap kind_in c.self.view_is in
    c.write_answer.ensures.back (ap (λ x. (g.W.Wire.model x).lends) k ∙ lends) n i more lays
    ∙ ap (λ x. ((g.W.Wire.model x).format.gives (g.W.Wire.said (item_of c.args.packet.now c.args.words.now)) c.args.reply.now).answer) k
