use Rattle.std.proofs.Common.{take, ap, ◌∙◌}
use Rattle.channel_protocol.specs.Paged.{bare_item}
use Rattle.device_packets.proofs.SaidLaws.{bare_so}
use Rattle.kvp_format.proofs.PairLaws.{pair_carries}
use Rattle.device_kvp.proofs.kvp_wire.KvpWireWire.write_answer.Goals as goal

pub write_pair_answer-requires-clause-inband : goal.write_pair_answer-requires-clause-inband
write_pair_answer-requires-clause-inband c = let f = c.requires.fits in (pair_carries c.args.packet.now f.0 f.1).0

pub write_pair_answer-requires-clause-long : goal.write_pair_answer-requires-clause-long
write_pair_answer-requires-clause-long c = let f = c.requires.fits in (pair_carries c.args.packet.now f.0 f.1).1

pub write_pair_answer-requires-clause-asks : goal.write_pair_answer-requires-clause-asks
write_pair_answer-requires-clause-asks c = let f = c.requires.fits in (pair_carries c.args.packet.now f.0 f.1).2

pub returns-clause-value : goal.returns-clause-value
returns-clause-value c i lays =
    let is = ap (λ n. take n c.write_pair_answer.new.out) c.bare.ensures.packet ∙ c.write_pair_answer.ensures.packet in
    bare_so _ _ _ i _ c.bare.ensures.none.1 (ap bare_item is) lays
