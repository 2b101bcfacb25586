use Rattle.std.proofs.Common.{arith}
use Rattle.device_wire.proofs.protocol.ChannelProtocol.count_starts.Goals as goal

pub returns-then-self-eq0-clause-few : goal.returns-then-self-eq0-clause-few
returns-then-self-eq0-clause-few g c =
    omega (arith, c.count_steps.ensures c.self.inside.lists, (g.W.Wire.kept c.self.inside.kind).few c.self.inside.subs c.self.inside.lists)
