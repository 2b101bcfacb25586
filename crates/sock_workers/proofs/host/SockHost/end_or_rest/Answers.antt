use Rattle.std.proofs.Common.{◌+◌, ◌*◌, [], ℕ, List, Option, None, Some, refl, ap, sym, ◌∙◌, subst, arith}
use Rattle.std.specs.Option.{option_map}
use Rattle.std.specs.Prelude.{take}
use Rattle.hv_sock.specs.Packets.{sock_packet}
use Rattle.hv_sock.proofs.PacketLaws.{sock_length}
use Rattle.sock_workers.specs.Workers.{Causes, Host, Looks, host_next, host_reads}
use Rattle.sock_workers.proofs.WorkerLaws.{host_ends, host_waits, rest_cause}
use Rattle.sock_workers.proofs.host.SockHost.end_or_rest.Goals as goal

pub returns-then-not-self-clause-cause : goal.returns-then-not-self-clause-cause
returns-then-not-self-clause-cause c = λ before looks sent.
    let i = c.self.inside in
    let w : Host = record { port = i.port; held = option_map (λ (k : ℕ). take k i.buffer) i.held } in
    let held = ap (λ (x : Host). x.held) c.self.view_is ∙ c.requires.held in
    subst (λ (x : Host). Causes c.rest.result (host_reads x) (host_next x) before c.rest.new.self.end) c.self.view_is
    (subst (λ (o : Option (List ℕ)). Causes c.rest.result (host_reads w) o before c.rest.new.self.end) (sym (host_waits w held (sym c.self.invariant.ended_is ∙ c.if-not-self.true)))
    (rest_cause c.rest.result (host_reads w) None before i.port.end None i.port c.rest.new.self (subst (λ (x : Host). Looks (host_reads x) before x.port.end) (sym c.self.view_is) looks) refl refl c.rest.ensures.rests))

pub returns-in-Full-clause-cause : goal.returns-in-Full-clause-cause
returns-in-Full-clause-cause c = λ before looks sent.
    let i = c.self.inside in
    let w : Host = record { port = i.port; held = option_map (λ (k : ℕ). take k i.buffer) i.held } in
    let held = ap (λ (x : Host). x.held) c.self.view_is ∙ c.requires.held in
    let need = ap (λ (k : ℕ). Some k) (c.need_for.ensures.need ∙ ap (λ (k : ℕ). 8 * k + 8) (sym (sock_length [] (omega arith)))) in
    let next = host_ends w held (sym c.self.invariant.ended_is ∙ c.if-not-self.false) (sym c.self.invariant.shut_is ∙ c.if-self.false) in
    subst (λ (x : Host). Causes c.rest-in-Full.result (host_reads x) (host_next x) before c.rest-in-Full.new.self.end) c.self.view_is
    (subst (λ (o : Option (List ℕ)). Causes c.rest-in-Full.result (host_reads w) o before c.rest-in-Full.new.self.end) (sym next)
    (rest_cause c.rest-in-Full.result (host_reads w) (Some (sock_packet [])) before i.port.end (Some c.need_for.result) c.shut.new.self c.rest-in-Full.new.self (subst (λ (x : Host). Looks (host_reads x) before x.port.end) (sym c.self.view_is) looks) c.in-Full.ensures.tries.1 need c.rest-in-Full.ensures.rests))
