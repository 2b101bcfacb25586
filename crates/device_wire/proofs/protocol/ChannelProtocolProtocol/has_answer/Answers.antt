use Rattle.std.proofs.Common.{◌∙◌, arith}
use Rattle.device_wire.proofs.ProtocolLaws.{first_waits, then_waits}
use Rattle.device_wire.proofs.protocol.ChannelProtocolProtocol.has_answer.Goals as goal

pub returns-then-k-count_starts : goal.returns-then-k-count_starts
returns-then-k-count_starts g c a h =
    c.is_answered.ensures
    ∙ first_waits g.W.Wire.model g.W.Wire.can g.W.Wire.kept _ c.args.self.now c.self.view_is c.args.k c.count_starts.result a c.count_starts.ensures.value (omega (arith, c.if-k-count_starts.true)) h _ c.step-step.ensures

pub returns : goal.returns
returns g c a h =
    then_waits g.W.Wire.model g.W.Wire.can g.W.Wire.kept _ c.args.self.now c.self.view_is c.args.k c.count_starts.result a c.self.invariant.0.can c.count_starts.ensures.value (omega (arith, c.if-k-count_starts.false)) h
