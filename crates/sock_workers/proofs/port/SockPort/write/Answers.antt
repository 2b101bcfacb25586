use Rattle.std.proofs.Common.{sym, subst}
use Rattle.hv_sock.specs.Packets.{sock_packet}
use Rattle.sock_workers.specs.declared.port.Tried.{Tried}
use Rattle.sock_workers.specs.Ports.{Port, Tries, tried_of}
use Rattle.sock_workers.proofs.PortLaws.{kept_port, send_keeps, send_tries}
use Rattle.sock_workers.proofs.port.SockPort.write.Goals as goal

pub invariant_of-self : goal.invariant_of-self
invariant_of-self c =
    let old = c.self.inside.end in
    let new = c.write.new.self in
    let s = c.write.ensures.sends in
    kept_port old new c.self.inside.room c.self.inside.seen (send_keeps _ old new (sock_packet c.args.bytes.now) c.write.result c.self.invariant.idle s) s.awake.1 s.cells c.self.invariant

pub returns-clause-tries : goal.returns-clause-tries
returns-clause-tries c =
    let old = c.self.inside.end in
    let new = c.write.new.self in
    let q : Port = record { end = new; room = c.self.inside.room; seen = c.self.inside.seen } in
    subst (λ (t : Tried). Tries t (sock_packet c.args.bytes.now) c.args.self.now q) (sym c.tried_by.ensures)
    (subst (λ (p : Port). Tries (tried_of c.write.result) (sock_packet c.args.bytes.now) p q) c.self.view_is
    (send_tries _ old new c.self.inside.room c.self.inside.seen (sock_packet c.args.bytes.now) c.write.result c.self.invariant.idle c.write.ensures.sends))
