use Rattle.device_any.proofs.Histories.{disk_history}
use Rattle.device_any.proofs.device_box.DeviceBox.into_history.Goals as goal

pub returns-in-Disk-clause-legal : goal.returns-in-Disk-clause-legal
returns-in-Disk-clause-legal c bad setup = disk_history c.args.self c.in-Disk.subs c.in-Disk.own c.into_history-in-Disk.result bad c.in-Disk.is c.requires c.into_history-in-Disk.ensures setup
