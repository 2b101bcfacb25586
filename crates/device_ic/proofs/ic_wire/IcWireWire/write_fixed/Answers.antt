use Rattle.std.proofs.Common.{◌≡◌, true, false, sym, ap, ◌∙◌}
use Rattle.std.specs.Prelude.{is_some}
use Rattle.ic_format.specs.Services.{service_read, service_fixed}
use Rattle.ic_format.proofs.KindLaws.{no_answer, asks_service, fixed_answer}
use Rattle.device_ic.proofs.ic_wire.IcWireWire.write_fixed.Goals as goal

pub returns-then-not-is_inband-clause-value : goal.returns-then-not-is_inband-clause-value
returns-then-not-is_inband-clause-value c = no_answer c.args.self.now c.args.packet.now c.args._words.now (sym c.is_inband.ensures.value ∙ c.if-not-is_inband.true)

pub returns-then-is_some-clause-value : goal.returns-then-is_some-clause-value
returns-then-is_some-clause-value c =
    let asks : is_some (service_read c.args.self.now c.args.packet.now) ≡ true = cc (c.is_some.ensures, c.if-is_some.true, c.asked.ensures.value, c.self.view_is) in
    asks_service c.args.self.now c.args.packet.now c.args._words.now (sym c.is_inband.ensures.value ∙ c.if-not-is_inband.false) asks

pub returns-clause-value : goal.returns-clause-value
returns-clause-value c =
    let asks : is_some (service_read c.args.self.now c.args.packet.now) ≡ false = cc (c.is_some.ensures, c.if-is_some.false, c.asked.ensures.value, c.self.view_is) in
    fixed_answer c.args.self.now c.args.packet.now _ c.args._words.now (sym c.is_inband.ensures.value ∙ c.if-not-is_inband.false) asks
    (c.write_service_answer.ensures.packet ∙ ap (λ k. service_fixed k c.args.packet.now) c.self.view_is)
