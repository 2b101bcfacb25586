use Rattle.std.proofs.Common.{◌≡◌, ℕ, Bool, List, Option, Some, None, cond, sym, ap, subst}
use Rattle.std.specs.Prelude.{not}
use Rattle.hv_sock.specs.Streams.{is_closed}
use Rattle.sock_workers.specs.Workers.{Causes, Looks, guest_next, guest_reads}
use Rattle.sock_workers.proofs.WorkerLaws.{packet_same}
use Rattle.sock_workers.proofs.guest.SockGuest.work.Goals as goal

pub returns-else-self-clause-cause : goal.returns-else-self-clause-cause
returns-else-self-clause-cause c =
    let w = c.args.self.now in
    let m = c.take.new.self in
    let t = c.in_default.ensures.takes in
    let same = c.take.ensures.same in
    let packet = packet_same w m same.0 c.take.ensures.goes.input in
    let reads : guest_reads m ≡ guest_reads w = ap (λ (ps : List (List ℕ)). not (is_closed ps)) t.1 in
    let next : guest_next m ≡ guest_next w = λ i. cond (is_closed (same.1 i)) None (Some (packet i)) in
    subst (λ (b : Bool). Causes c.send_or_rest.result b (guest_next w) w.port.end c.send_or_rest.new.self.port.end) reads
    (subst (λ (o : Option (List ℕ)). Causes c.send_or_rest.result (guest_reads m) o w.port.end c.send_or_rest.new.self.port.end) next
    (c.send_or_rest.ensures.cause w.port.end (subst (λ (b : Bool). Looks b w.port.end m.port.end) (sym reads) t.0) (sym same.1)))
