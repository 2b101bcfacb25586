use Rattle.std.proofs.Common.{take, ap, ◌∙◌}
use Rattle.channel_protocol.specs.Paged.{bare_item}
use Rattle.device_packets.proofs.SaidLaws.{bare_so}
use Rattle.ic_format.specs.Services.{service_fixed}
use Rattle.ic_format.proofs.KindLaws.{answer_is}
use Rattle.device_ic.proofs.ic_wire.IcWireWire.write_answer.Goals as goal

pub write_service_answer-requires-clause-inband : goal.write_service_answer-requires-clause-inband
write_service_answer-requires-clause-inband c = let f = c.requires.fits in (answer_is _ c.args.packet.now f.0 c.args._reply.now f.1 f.2).0

pub returns-clause-value : goal.returns-clause-value
returns-clause-value c i lays =
    let f = c.requires.fits in
    let is = ap (λ n. take n c.write_service_answer.new.out) c.bare.ensures.packet ∙ (c.write_service_answer.ensures.packet ∙ ap (λ k. service_fixed k c.args.packet.now) c.self.view_is) in
    bare_so _ _ _ i _ c.bare.ensures.none.1 (ap bare_item (is ∙ (answer_is _ c.args.packet.now f.0 c.args._reply.now f.1 f.2).1)) lays
