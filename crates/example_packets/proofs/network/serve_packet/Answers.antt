use Rattle.std.proofs.Common.{◌∙◌, sym}
use Rattle.net_dev.specs.declared.nvsp.Nvsp.TheVariants.{RndisPacket}
use Rattle.example_packets.proofs.network.serve_packet.Goals as goal

-- bytes that begin with such a message are read
pub returns-in_default-2-clause-only : goal.returns-in_default-2-clause-only
returns-in_default-2-clause-only c channel section size e = let read = sym c.in_default.is ∙ c.decode_nvsp.ensures.only (RndisPacket channel section size) e in absurd (cc)
