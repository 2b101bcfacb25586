use Rattle.sock_workers.specs.Ports.{Goes}
use Rattle.sock_workers.specs.Workers.{GuestGoes, Stands}
use Rattle.sock_workers.proofs.both.run_both.Given as goal

abbrev pub invariant-loop : goal.invariant-loop
invariant-loop g l = record {
  can : (goal.iterator-loop g).can_next l.iterator';
  ends : (goal.iterator-loop g).is_finite l.iterator';
  guest : Stands l.guest_ended l.guest.port;
  guest_goes : GuestGoes l.fn.guest l.guest;
  host : Stands l.host_ended l.host.port;
  host_goes : Goes l.fn.host.port l.host.port;
}
