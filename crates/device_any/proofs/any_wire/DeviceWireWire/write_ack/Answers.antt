use Rattle.std.proofs.Common.{sym, ap, ◌∙◌}
use Rattle.device_any.proofs.KindLaws.{model_at}
use Rattle.device_any.proofs.any_wire.DeviceWireWire.write_ack.Goals as goal

pub returns-in-Net-clause-value : goal.returns-in-Net-clause-value
returns-in-Net-clause-value c i j same message written =
    let is = sym (model_at c.in-Net.is c.self.view_is) in
    c.write_ack-in-Net.ensures.value i j same (ap (λ m. m.format.is_message i) is ∙ message) written ∙ ap (λ m. m.format.ack i) is
