use Rattle.std.proofs.Common.{◌+◌, ◌*◌, ◌≤◌, ℕ, Bool, List, Option, Some, false, length, take, length-take, ap, refl, sym, subst, ◌∙◌, arith}
use Rattle.std.specs.Option.{option_map}
use Rattle.hv_sock.specs.Packets.{sock_packet}
use Rattle.hv_sock.proofs.PacketLaws.{sock_length}
use Rattle.sock_workers.specs.Workers.{Causes, Host, IsPiece, host_next, host_reads}
use Rattle.sock_workers.proofs.WorkerLaws.{host_holds, rest_cause}
use Rattle.sock_workers.proofs.host.SockHost.give_or_rest.Goals as goal

pub returns-in-Full-clause-cause : goal.returns-in-Full-clause-cause
returns-in-Full-clause-cause c =
    let i = c.self.inside in
    let n = c.in-Some.n in
    let bytes = take n i.buffer in
    let w : Host = record { port = i.port; held = option_map (λ (k : ℕ). take k i.buffer) i.held } in
    let holds = host_holds w bytes (ap (option_map (λ (k : ℕ). take k i.buffer)) c.in-Some.is) in
    let few = (subst IsPiece c.in-Some.is c.self.invariant.piece).1 in
    let most : length bytes ≤ 2048 = omega (arith, few, length-take n i.buffer) in
    let need = ap (λ (k : ℕ). Some k) (c.need_for-need.ensures.need ∙ ap (λ (k : ℕ). 8 * k + 8) (sym (sock_length bytes most))) in
    subst (λ (x : Host). Causes c.rest.result (host_reads x) (host_next x) x.port.end c.rest.new.self.end) c.self.view_is
    (subst (λ (b : Bool). Causes c.rest.result b (host_next w) i.port.end c.rest.new.self.end) (sym holds.0)
    (subst (λ (o : Option (List ℕ)). Causes c.rest.result false o i.port.end c.rest.new.self.end) (sym holds.1)
    (rest_cause c.rest.result false (Some (sock_packet bytes)) i.port.end i.port.end (Some c.need_for-need.result) c.write.new.self c.rest.new.self refl c.in-Full.ensures.tries.1 need c.rest.ensures.rests)))
