use Rattle.std.proofs.Common.{◌∙◌, arith}
use Rattle.std.proofs.lemmas.Option.{slice_get_read}
use Rattle.device_wire.proofs.ProtocolLaws.{first_encoded, then_encoded, then_can, then_within}
use Rattle.device_wire.proofs.protocol.ChannelProtocolProtocol.encode.Goals as goal

pub returns-then-k-starts-clause-value : goal.returns-then-k-starts-clause-value
returns-then-k-starts-clause-value g c a i h lays =
    c.write_step.ensures.value i lays
    ∙ first_encoded g.W.Wire.model g.W.Wire.can g.W.Wire.kept _ c.args.self.now c.self.view_is c.args.k c.count_starts-starts.result a c.count_starts-starts.ensures.value (omega (arith, c.if-k-starts.true)) h c.args.id _ c.step-step.ensures

pub returns-clause-value : goal.returns-clause-value
returns-clause-value g c a i h lays =
    let v = c.self.inside.asks in
    let within = then_within g.W.Wire.model g.W.Wire.can g.W.Wire.kept _ c.args.self.now c.self.view_is c.args.k c.count_starts-starts.result a c.count_starts-starts.ensures.value (omega (arith, c.if-k-starts.false)) c.requires.which in
    let there = slice_get_read v.items v.len _ c.index.result.now v.ok.0 (omega (arith, v.ok.0, within)) c.index.ensures in
    c.write_request.ensures.value i lays
    ∙ then_encoded g.W.Wire.model g.W.Wire.can g.W.Wire.kept _ c.args.self.now c.self.view_is c.args.k c.count_starts-starts.result a c.count_starts-starts.ensures.value (omega (arith, c.if-k-starts.false)) h c.args.id c.index.result.now there
