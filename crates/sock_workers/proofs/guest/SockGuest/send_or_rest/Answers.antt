use Rattle.std.proofs.Common.{◌≡◌, ◌+◌, ◌*◌, ℕ, Bool, List, Option, Some, None, cond, length, refl, sym, ap, subst, ◌∙◌}
use Rattle.sock_workers.specs.Ports.{FoundFull, Port}
use Rattle.sock_workers.specs.Workers.{Causes, Guest, guest_next, guest_reads, packet_at}
use Rattle.sock_workers.proofs.WorkerLaws.{packet_same, rest_cause}
use Rattle.sock_workers.proofs.guest.SockGuest.send_or_rest.Goals as goal

pub returns-in-Full-clause-cause : goal.returns-in-Full-clause-cause
returns-in-Full-clause-cause c = λ before looks sent.
    let w = c.args.self.now in
    let e = c.in-Full.ensures in
    let next : guest_next w ≡ Some (packet_at w) = ap (λ (b : Bool). cond b None (Some (packet_at w))) c.requires.«open» in
    let same : packet_at c.send.new.self ≡ packet_at w = packet_same w c.send.new.self (e.at refl) e.goes.input in
    let need : Some c.need-need.result ≡ Some (8 * length (packet_at w) + 8) = ap (λ (n : ℕ). Some n) (c.need-need.ensures.need ∙ ap (λ (p : List ℕ). 8 * length p + 8) same) in
    let full = subst (λ (p : Port). FoundFull (packet_at w) w.port.end p.end) (ap (λ (x : Guest). x.port) (sym c.self.view_is)) e.tries.1 in
    subst (λ (o : Option (List ℕ)). Causes c.rest.result (guest_reads w) o before c.rest.new.self.end) (sym next)
    (rest_cause c.rest.result (guest_reads w) (Some (packet_at w)) before w.port.end (Some c.need-need.result) c.self.inside.port c.rest.new.self looks full need c.rest.ensures.rests)
