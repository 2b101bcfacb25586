use Rattle.std.proofs.Common.{◌≡◌, true, false, sym, ◌∙◌}
use Rattle.std.specs.Prelude.{is_some}
use Rattle.kvp_format.specs.Pairs.{pair_read}
use Rattle.kvp_format.proofs.PairLaws.{no_answer, asks_service, fixed_answer}
use Rattle.device_kvp.proofs.kvp_wire.KvpWireWire.write_fixed.Goals as goal

pub returns-then-not-is_inband-clause-value : goal.returns-then-not-is_inband-clause-value
returns-then-not-is_inband-clause-value c = no_answer c.args.packet.now c.args._words.now (sym c.is_inband.ensures.value ∙ c.if-not-is_inband.true)

pub returns-then-is_some-clause-value : goal.returns-then-is_some-clause-value
returns-then-is_some-clause-value c =
    let asks : is_some (pair_read c.args.packet.now) ≡ true = cc (c.is_some.ensures, c.if-is_some.true, c.asked.ensures.value) in
    asks_service c.args.packet.now c.args._words.now (sym c.is_inband.ensures.value ∙ c.if-not-is_inband.false) asks

pub returns-clause-value : goal.returns-clause-value
returns-clause-value c =
    let asks : is_some (pair_read c.args.packet.now) ≡ false = cc (c.is_some.ensures, c.if-is_some.false, c.asked.ensures.value) in
    fixed_answer c.args.packet.now _ c.args._words.now (sym c.is_inband.ensures.value ∙ c.if-not-is_inband.false) asks c.write_pair_fixed.ensures.packet
