use Rattle.std.proofs.Common.{sym, ap, ◌∙◌}
use Rattle.device_any.proofs.KindLaws.{service_at, model_at}
use Rattle.device_any.proofs.any_wire.DeviceWireWire.is_message.Goals as goal

pub returns-in-Beat : goal.returns-in-Beat
returns-in-Beat c i same = c.is_message.ensures i same ∙ ap (λ m. m.format.is_message i) (sym (service_at c.in-Beat.is c.self.view_is c.of-wire.ensures))

pub returns-in-Disk : goal.returns-in-Disk
returns-in-Disk c i same = c.is_message-in-Disk.ensures i same ∙ ap (λ m. m.format.is_message i) (sym (model_at c.in-Disk.is c.self.view_is))
