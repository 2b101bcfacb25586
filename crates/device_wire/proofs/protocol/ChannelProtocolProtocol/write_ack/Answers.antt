use Rattle.std.proofs.Common.{refl, sym, ap, ◌∙◌}
use Rattle.device_wire.proofs.ProtocolLaws.{kind_in}
use Rattle.device_wire.proofs.protocol.ChannelProtocolProtocol.write_ack.Goals as goal

pub returns-clause-value : goal.returns-clause-value
returns-clause-value g c i same is =
    let k = ap kind_in c.self.view_is in
    let here = ap (λ x. (g.W.Wire.model x).format.is_message i) k ∙ is in
    sym (g.W.Wire.said_bare _) ∙ (c.write_ack.ensures.value i _ same here refl ∙ ap (λ x. (g.W.Wire.model x).format.ack i) k)
