use Rattle.std.proofs.Common.{sym, ap, ◌∙◌}
use Rattle.pkt_desc.specs.Packets.{id_of}
use Rattle.device_wire.proofs.protocol.ChannelProtocolProtocol.id.Goals as goal

pub returns : goal.returns
returns g c i same = sym ((g.W.Wire.kept c.args.self.now.kind).ids i ∙ ap id_of same)
