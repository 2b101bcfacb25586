use Rattle.std.proofs.Common.{sym, subst}
use Rattle.hv_sock.specs.Streams.{IsOpen}
use Rattle.sock_workers.specs.declared.port.Found.{Found}
use Rattle.sock_workers.specs.Ports.{Port, Finds, found_of}
use Rattle.sock_workers.proofs.PortLaws.{kept_port, read_finds, read_keeps}
use Rattle.sock_workers.proofs.port.SockPort.read.Goals as goal

pub invariant_of-self : goal.invariant_of-self
invariant_of-self c =
    let old = c.self.inside.end in
    let new = c.read.new.self in
    let can = subst (λ (p : Port). IsOpen p.end.state.got) (sym c.self.view_is) c.requires.«open» in
    let e = c.read.ensures in
    kept_port old new c.self.inside.room c.self.inside.seen (read_keeps _ old new c.read.result c.args.out.now c.read.new.out c.self.invariant.idle e.kept (e.reads can)) e.awake.1 e.same.1 c.self.invariant

pub returns-clause-finds : goal.returns-clause-finds
returns-clause-finds c =
    let old = c.self.inside.end in
    let new = c.read.new.self in
    let can = subst (λ (p : Port). IsOpen p.end.state.got) (sym c.self.view_is) c.requires.«open» in
    let e = c.read.ensures in
    subst (λ (f : Found). Finds f c.args.self.now (record { end = new; room = c.self.inside.room; seen = c.self.inside.seen }) c.read.new.out) (sym c.found_by.ensures)
    (subst (λ (p : Port). Finds (found_of c.read.result) p (record { end = new; room = c.self.inside.room; seen = c.self.inside.seen }) c.read.new.out) c.self.view_is
    (read_finds _ old new c.self.inside.room c.self.inside.seen c.read.result c.args.out.now c.read.new.out c.self.invariant.idle c.self.invariant.seen_is (e.reads can)))
