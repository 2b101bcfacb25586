use Rattle.std.proofs.Common.{arith}
use Rattle.worker_server.proofs.OwnLaws.{full_count}
use Rattle.worker_server.proofs.own.open_own.Goals as goal

pub unreachable-requires : goal.unreachable-requires
unreachable-requires c = let all = full_count c.args.table.now c.in-Err.ensures.full.0 in omega (arith, all, c.requires.room)
