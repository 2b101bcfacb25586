use Rattle.std.proofs.Common.{None, refl, subst}
use Rattle.sock_workers.specs.Workers.{Causes, Guest, Looks, guest_reads}
use Rattle.sock_workers.proofs.WorkerLaws.{rest_cause}
use Rattle.sock_workers.proofs.guest.SockGuest.end_or_rest.Goals as goal

pub returns-else-self-clause-cause : goal.returns-else-self-clause-cause
returns-else-self-clause-cause c = λ before.
    subst (λ (w : Guest). Looks (guest_reads w) before w.port.end → Causes c.rest.result (guest_reads w) None before c.rest.new.self.end) c.self.view_is
    (λ looks. rest_cause c.rest.result _ None before c.self.inside.port.end None c.self.inside.port c.rest.new.self looks refl refl c.rest.ensures.rests)
