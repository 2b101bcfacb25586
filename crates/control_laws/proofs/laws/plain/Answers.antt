use Rattle.control_laws.proofs.PlainPhases.{plain_guest, plain_host, plain_count}
use Rattle.control_laws.proofs.laws.plain.Goals as goal

pub returns : goal.returns
returns c = record { guest = plain_guest; host = plain_host; count = plain_count }
