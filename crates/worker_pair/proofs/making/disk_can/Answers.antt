use Rattle.std.proofs.Common.{arith}
use Rattle.worker_pair.proofs.Opening.{carried_can}
use Rattle.worker_pair.proofs.making.disk_can.Goals as goal

pub returns : goal.returns
returns c = carried_can (record { cdb = c.args.cdb.now; out = c.args.out.now }) c.requires (λ i. omega (arith, c.type_inv.cdb i)) (λ i. omega (arith, c.type_inv.out i))
