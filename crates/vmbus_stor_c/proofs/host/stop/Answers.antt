use Rattle.std.proofs.Common.{◌∙◌, [], sym, ap}
use Rattle.stor_proto.specs.Srbs.{request_of}
use Rattle.vmbus_stor_c.specs.Storage.{stop_in}
use Rattle.vmbus_stor_c.proofs.Stops.{goes_on}
use Rattle.vmbus_stor_c.proofs.host.stop.Goals as goal

pub returns-in-Some : goal.returns-in-Some
returns-in-Some c = c.from.ensures ∙ sym (ap stop_in (c.in-Some.ensures []))

pub returns-in-None : goal.returns-in-None
returns-in-None c = goes_on (request_of c.args.p.now []) (c.in-None.ensures [])
