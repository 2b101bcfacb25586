use Rattle.std.proofs.Common.{take, sym, ap, ◌∙◌}
use Rattle.channel_protocol.specs.Paged.{bare_item, words_lent}
use Rattle.device_packets.proofs.SaidLaws.{bare_so}
use Rattle.disk_format.proofs.PageFormatLaws.{start_words}
use Rattle.device_disk.proofs.disk_wire.DiskWireWire.write_step.Goals as goal

pub returns-clause-value : goal.returns-clause-value
returns-clause-value c i lays =
    let is = ap (λ n. take n c.write_start.new.out) c.bare.ensures.packet ∙ c.write_start.ensures.packet in
    bare_so _ _ _ i _ c.bare.ensures.none.1 (ap bare_item is) lays

pub returns-clause-lent : goal.returns-clause-lent
returns-clause-lent c lends =
    let is = ap (λ n. take n c.write_start.new.out) c.bare.ensures.packet ∙ c.write_start.ensures.packet in
    c.bare.ensures.none.1 ∙ sym (ap words_lent is ∙ start_words c.args.id c.args.step.now)
