use Rattle.sock_workers.specs.Ports.{Goes}
use Rattle.sock_workers.specs.Workers.{IsLive}
use Rattle.sock_workers.proofs.host.SockHost.run.Given as goal

abbrev pub invariant-loop : goal.invariant-loop
invariant-loop g l = record {
  can : (goal.iterator-loop g).can_next l.iterator';
  ends : (goal.iterator-loop g).is_finite l.iterator';
  live : IsLive l.self.port;
  goes : Goes l.fn.self.port l.self.port;
}
