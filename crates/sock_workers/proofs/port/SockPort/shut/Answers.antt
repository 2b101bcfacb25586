use Rattle.std.proofs.Common.{[], ap, sym, ◌∙◌, subst}
use Rattle.hv_sock.specs.Packets.{sock_packet}
use Rattle.hv_sock.specs.Streams.{is_closed}
use Rattle.sock_workers.specs.declared.port.Tried.{Tried}
use Rattle.sock_workers.specs.Ports.{Port, Tries, has_gone, tried_of}
use Rattle.sock_workers.proofs.PortLaws.{kept_port, send_keeps, send_tries, shut_closed}
use Rattle.sock_workers.proofs.port.SockPort.shut.Goals as goal

pub invariant_of-self : goal.invariant_of-self
invariant_of-self c =
    let old = c.self.inside.end in
    let new = c.shut.new.self in
    let s = c.shut.ensures.sends in
    kept_port old new c.self.inside.room c.self.inside.seen (send_keeps _ old new (sock_packet []) c.shut.result c.self.invariant.idle s) s.awake.1 s.cells c.self.invariant

pub returns-clause-tries : goal.returns-clause-tries
returns-clause-tries c =
    let old = c.self.inside.end in
    let new = c.shut.new.self in
    let q : Port = record { end = new; room = c.self.inside.room; seen = c.self.inside.seen } in
    subst (λ (t : Tried). Tries t (sock_packet []) c.args.self.now q) (sym c.tried_by.ensures)
    (subst (λ (p : Port). Tries (tried_of c.shut.result) (sock_packet []) p q) c.self.view_is
    (send_tries _ old new c.self.inside.room c.self.inside.seen (sock_packet []) c.shut.result c.self.invariant.idle c.shut.ensures.sends))

pub returns-clause-closed : goal.returns-clause-closed
returns-clause-closed c =
    let unclosed = ap (λ (p : Port). is_closed p.end.state.sent) c.self.view_is ∙ c.requires.«open» in
    shut_closed _ c.shut.result c.self.inside.end.state.sent c.shut.new.self.state.sent unclosed c.shut.ensures.closed c.shut.ensures.unsent ∙ ap has_gone (sym c.tried_by.ensures)
