use Rattle.std.proofs.Common.{arith}
use Rattle.kvp_ic.proofs.AskLaws.{read_asks, read_only}
use Rattle.kvp_ic.proofs.read.decode.Goals as goal

pub returns-clause-found : goal.returns-clause-found
returns-clause-found c = read_asks c.args.bytes.now c.parse.result (λ i. omega (arith, c.type_inv.bytes i)) c.parse.ensures

pub returns-clause-only : goal.returns-clause-only
returns-clause-only c m asks = read_only c.args.bytes.now c.parse.result m c.parse.ensures asks
