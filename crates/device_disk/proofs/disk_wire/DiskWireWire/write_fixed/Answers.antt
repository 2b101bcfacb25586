use Rattle.device_disk.proofs.disk_wire.DiskWireWire.write_fixed.Goals as goal

pub returns-clause-value : goal.returns-clause-value
returns-clause-value c = c.write_page_fixed.ensures.value 0
