use Rattle.worker_port.proofs.CameLaws.{came_new}
use Rattle.worker_port.proofs.PortLaws.{new_line}
use Rattle.worker_port.proofs.port.Port.over.Goals as goal

pub invariant_of-result : goal.invariant_of-result
invariant_of-result g c = record { line = new_line g.S.Seatlike.told c.args.end c.requires.fresh c.requires.size; came = came_new g.S.Seatlike.tale c.args.end c.requires.fresh }
