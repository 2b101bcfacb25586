use Rattle.std.proofs.Common.{subst}
use Rattle.sock_workers.specs.Workers.{Host}
use Rattle.sock_run.specs.Pairs.{Comes, IsStarted}
use Rattle.sock_run.proofs.run.end_both.Goals as goal

pub here-requires : goal.here-requires
here-requires g c =
    let started = subst (IsStarted c.args.pair.now.value.host) c.in-Thread.is c.requires.host in
    (c.args.pair.now.value.host, c.requires.pair.host_live, subst (λ (w : Host). Comes w c.join.result) started c.join.ensures)

pub returns-in-Thread-clause-host : goal.returns-in-Thread-clause-host
returns-in-Thread-clause-host g c =
    let started = subst (IsStarted c.args.pair.now.value.host) c.in-Thread.is c.requires.host in
    c.here.ensures c.args.pair.now.value.host (subst (λ (w : Host). Comes w c.join.result) started c.join.ensures)
