use Rattle.control_path.proofs.Parts.{guest_hears_host, host_hears_guest}
use Rattle.control_path.proofs.path.go_on.Goals as goal

pub settle-ends-requires-clause-guest_hears : goal.settle-ends-requires-clause-guest_hears
settle-ends-requires-clause-guest_hears g c = guest_hears_host c.args.guest.done.control c.args.host.done.control c.requires.one

pub settle-ends-requires-clause-host_hears : goal.settle-ends-requires-clause-host_hears
settle-ends-requires-clause-host_hears g c = host_hears_guest c.args.guest.done.control c.args.host.done.control c.requires.one
