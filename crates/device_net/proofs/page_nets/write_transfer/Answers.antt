use Rattle.std.proofs.Common.{◌≡◌, ◌*◌, ◌-◌, ◌∷◌, [], min, ap, ◌∙◌, arith}
use Rattle.net_dev.specs.declared.nvsp.Nvsp.TheVariants.{RndisPacket}
use Rattle.net_dev.specs.Nvsp.{nvsp_bytes}
use Rattle.pkt_desc.specs.Built.{xfer_packet}
use Rattle.net_format.specs.PageNets.{transfer_packet}
use Rattle.device_net.proofs.page_nets.write_transfer.Goals as goal

pub returns-clause-packet : goal.returns-clause-packet
unfolding transfer_packet
returns-clause-packet c =
    let few : c.args.bytes ≡ min c.args.bytes 4096 = omega (arith, c.requires.bytes) in
    let at : 4096 * c.saturating_sub.result ≡ 4096 * (c.args.own - 1) = omega (arith, c.saturating_sub.ensures) in
    let m = nvsp_bytes (RndisPacket c.args.channel_type 0xffff_ffff 0) in
    c.build_xfer.ensures.packet ∙ (ap (λ b. xfer_packet c.args.own 0xcafe ((c.args.bytes, 4096 * c.saturating_sub.result) ∷ []) b) c.encode_nvsp.ensures.written ∙ (λ i. xfer_packet c.args.own 0xcafe ((few i, at i) ∷ []) m))
