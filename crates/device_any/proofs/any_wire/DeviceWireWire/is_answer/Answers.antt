use Rattle.std.proofs.Common.{sym, ap, ◌∙◌}
use Rattle.device_any.proofs.KindLaws.{service_at}
use Rattle.device_any.proofs.any_wire.DeviceWireWire.is_answer.Goals as goal

pub returns-in-Beat : goal.returns-in-Beat
returns-in-Beat c i same = c.is_answer.ensures i same ∙ ap (λ m. m.format.is_answer i) (sym (service_at c.in-Beat.is c.self.view_is c.of-wire.ensures))
