use Rattle.std.proofs.Common.{◌∙◌, ap}
use Rattle.scsi_disk.specs.Commands.{command_of}
use Rattle.script_lines.proofs.Carrying.{reads_back}
use Rattle.script_lines.proofs.request.request_of.Goals as goal

pub returns-clause-command : goal.returns-clause-command
returns-clause-command c = ap command_of c.cdb_of-cdb.ensures ∙ reads_back c.args.ask c.requires
