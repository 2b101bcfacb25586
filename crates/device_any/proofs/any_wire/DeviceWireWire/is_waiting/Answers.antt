use Rattle.std.proofs.Common.{sym, ap, ◌∙◌}
use Rattle.std.specs.Prelude.{◌&&◌}
use Rattle.device_any.proofs.KindLaws.{model_at}
use Rattle.device_any.proofs.any_wire.DeviceWireWire.is_waiting.Goals as goal

pub returns-in-Disk : goal.returns-in-Disk
returns-in-Disk c i same = c.is_waiting-in-Disk.ensures i same ∙ ap (λ m. m.format.is_request i && m.format.waits i) (sym (model_at c.in-Disk.is c.self.view_is))
