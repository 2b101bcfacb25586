use Rattle.std.proofs.Common.{◌==◌, length, sym, ◌∙◌, arith}
use Rattle.std.specs.Prelude.{nat_le}
use Rattle.std.proofs.lemmas.Bool.Decides.{nat_tests}
use Rattle.pkt_desc.specs.Packets.{kind_of}
use Rattle.net_format.specs.Nets.{is_transfer}
use Rattle.net_format.proofs.NetLaws.{both}
use Rattle.device_net.proofs.CameLaws.{brings_not, brings_faulty, brings_is, brings_other}
use Rattle.device_net.proofs.nets.brings.Goals as goal

pub returns-then-not-is_transfer : goal.returns-then-not-is_transfer
returns-then-not-is_transfer c = sym (brings_not c.args.packet.now (sym c.is_transfer.ensures.value ∙ c.if-not-is_transfer.true))

pub returns-in_default : goal.returns-in_default
returns-in_default c = sym (brings_faulty c.args.packet.now _ c.decode_nvsp.result c.content-len.ensures.bytes c.in_default.not-Ok c.decode_nvsp.ensures.fault)

pub returns-in-RndisPacket : goal.returns-in-RndisPacket
returns-in-RndisPacket c =
    sym (brings_is c.args.packet.now _ c.in-Ok.message c.in-RndisPacket.channel_type c.in-RndisPacket.section_index c.in-RndisPacket.section_size (sym c.is_transfer.ensures.value ∙ c.if-not-is_transfer.false) c.content-len.ensures.bytes c.in-Ok.ensures.found c.in-RndisPacket.is)

pub returns-in_default-message : goal.returns-in_default-message
returns-in_default-message c = sym (brings_other c.args.packet.now _ c.in-Ok.message c.content-len.ensures.bytes c.in-Ok.ensures.found c.in_default-message.not-RndisPacket)

pub content-len-requires-clause-short : goal.content-len-requires-clause-short
unfolding is_transfer
content-len-requires-clause-short c =
    let p = c.args.packet.now in
    let two = both (kind_of p == 7) (nat_le (length p) 384) (sym c.is_transfer.ensures.value ∙ c.if-not-is_transfer.false) in
    let low = two.1 in
    grind (arith, nat_tests, low)
