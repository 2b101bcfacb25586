use Rattle.std.proofs.Common.{length, sym, ap, ◌∙◌}
use Rattle.std.proofs.lemmas.List.{length-map}
use Rattle.disk_format.specs.Disks.{disk_steps}
use Rattle.device_kinds.specs.declared.device_step.DeviceStep.TheVariants.{Disk}
use Rattle.device_any.proofs.KindLaws.{service_at, model_at}
use Rattle.device_any.proofs.any_wire.DeviceWireWire.count_steps.Goals as goal

pub returns-in-Beat : goal.returns-in-Beat
returns-in-Beat c lists = c.count_steps.ensures lists ∙ ap (λ m. length (m.steps c.args.subs lists)) (sym (service_at c.in-Beat.is c.self.view_is c.of-wire.ensures))

pub returns-in-Disk : goal.returns-in-Disk
returns-in-Disk c lists = c.count_steps-in-Disk.ensures lists ∙ (sym (length-map (disk_steps c.args.subs) Disk) ∙ ap (λ m. length (m.steps c.args.subs lists)) (sym (model_at c.in-Disk.is c.self.view_is)))

pub returns-in-Net : goal.returns-in-Net
returns-in-Net c lists = c.count_steps-in-Net.ensures lists ∙ ap (λ m. length (m.steps c.args.subs lists)) (sym (model_at c.in-Net.is c.self.view_is))
