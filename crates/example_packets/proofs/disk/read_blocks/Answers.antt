use Rattle.std.proofs.Common.{◌∙◌, ap}
use Rattle.scsi_disk.specs.Commands.{command_of}
use Rattle.example_packets.proofs.CommandLaws.{read_is}
use Rattle.example_packets.proofs.disk.read_blocks.Goals as goal

pub returns : goal.returns
returns c = (ap command_of c.read_command.ensures ∙ read_is c.args.lba c.args.count c.ranges.lba.fits c.ranges.count.fits, c.empty.ensures)
