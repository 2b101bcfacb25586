use Rattle.std.proofs.Common.{subst}
use Rattle.bus_threads.specs.Beginning.{Begins}
use Rattle.bus_threads.specs.Starting.{Comes}
use Rattle.bus_threads.proofs.channel.end_workers.Goals as goal

pub left-guest-requires-after_bounds : goal.left-guest-requires-after_bounds
left-guest-requires-after_bounds g c ls bounds =
    let begins = subst (Begins c.args.pair.now.value) c.in-Threads.is c.requires in
    (c.args.pair.now.value.guest, begins.0.pair.guest_live, begins.1)

pub here-requires-after_bounds : goal.here-requires-after_bounds
here-requires-after_bounds g c ls bounds =
    let begins = subst (Begins c.args.pair.now.value) c.in-Threads.is c.requires in
    (c.args.pair.now.value.host, begins.0.pair.host_live, subst (λ w. Comes w c.join.result) begins.2 c.join.ensures)
