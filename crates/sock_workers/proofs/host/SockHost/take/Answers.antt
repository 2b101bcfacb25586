use Rattle.std.proofs.Common.{◌≡◌, ℕ, take, Option, None, Some, true, refl, ap, sym, ◌∙◌, subst}
use Rattle.std.specs.Option.{option_map}
use Rattle.hv_sock.specs.Packets.{Data, Close, Fault}
use Rattle.hv_sock.specs.Streams.{IsOpen, fault_in}
use Rattle.sock_workers.specs.Workers.{Host, HasGot, IsHost}
use Rattle.sock_workers.proofs.WorkerLaws.{adds, host_read, none_held}
use Rattle.sock_workers.proofs.host.SockHost.take.Goals as goal

pub invariant_of-self : goal.invariant_of-self
invariant_of-self c =
    let i = c.self.inside in
    let h = c.self.invariant in
    let f = c.in-Bytes.ensures.finds in
    let w : Host = record { port = i.port; held = option_map (λ (n : ℕ). take n i.buffer) i.held } in
    let bytes = take c.in-Bytes.n c.read.new.out in
    let free : w.held ≡ None = ap (option_map (λ (n : ℕ). take n i.buffer)) (none_held i.held (sym c.is_some.ensures ∙ c.if-is_some.false)) in
    let can : IsOpen i.port.end.state.got = record { unclosed = sym h.ended_is ∙ c.if-self.false; whole = ap (λ (x : Host). fault_in x.port.end.state.got) c.self.view_is ∙ c.requires.live } in
    let a = adds i.port.end.state.got c.read.new.self.end.state.got f.0 (Data bytes) can f.1 f.2 in
    host_read w (record { port = c.read.new.self; held = Some bytes }) i.held (Some c.in-Bytes.n) i.shut i.ended i.ended (Data bytes) h free can c.read.ensures.sent a refl (c.if-self.false ∙ sym a.closed) (f.3, f.4)

pub invariant_of-self-in-End : goal.invariant_of-self-in-End
invariant_of-self-in-End c =
    let i = c.self.inside in
    let h = c.self.invariant in
    let f = c.in-End.ensures.finds in
    let w : Host = record { port = i.port; held = option_map (λ (n : ℕ). take n i.buffer) i.held } in
    let none = none_held i.held (sym c.is_some.ensures ∙ c.if-is_some.false) in
    let free : w.held ≡ None = ap (option_map (λ (n : ℕ). take n i.buffer)) none in
    let can : IsOpen i.port.end.state.got = record { unclosed = sym h.ended_is ∙ c.if-self.false; whole = ap (λ (x : Host). fault_in x.port.end.state.got) c.self.view_is ∙ c.requires.live } in
    let a = adds i.port.end.state.got c.read.new.self.end.state.got f.0 Close can f.1 f.2 in
    subst (λ (o : Option ℕ). IsHost (record { port = c.read.new.self; held = option_map (λ (n : ℕ). take n c.read.new.out) o }) o i.shut true) (sym none)
    (host_read w (record { port = c.read.new.self; held = None }) i.held None i.shut i.ended true Close h free can c.read.ensures.sent a refl (sym a.closed) tt)

pub invariant_of-self-in-Fault : goal.invariant_of-self-in-Fault
invariant_of-self-in-Fault c =
    let i = c.self.inside in
    let h = c.self.invariant in
    let f = c.in-Fault.ensures.finds in
    let w : Host = record { port = i.port; held = option_map (λ (n : ℕ). take n i.buffer) i.held } in
    let none = none_held i.held (sym c.is_some.ensures ∙ c.if-is_some.false) in
    let free : w.held ≡ None = ap (option_map (λ (n : ℕ). take n i.buffer)) none in
    let can : IsOpen i.port.end.state.got = record { unclosed = sym h.ended_is ∙ c.if-self.false; whole = ap (λ (x : Host). fault_in x.port.end.state.got) c.self.view_is ∙ c.requires.live } in
    let a = adds i.port.end.state.got c.read.new.self.end.state.got f.0 (Fault c.in-Fault.fault) can f.1 f.2 in
    subst (λ (o : Option ℕ). IsHost (record { port = c.read.new.self; held = option_map (λ (n : ℕ). take n c.read.new.out) o }) o i.shut i.ended) (sym none)
    (host_read w (record { port = c.read.new.self; held = None }) i.held None i.shut i.ended i.ended (Fault c.in-Fault.fault) h free can c.read.ensures.sent a refl (c.if-self.false ∙ sym a.closed) tt)

pub returns-in-Bytes-clause-takes : goal.returns-in-Bytes-clause-takes
returns-in-Bytes-clause-takes c =
    let i = c.self.inside in
    let h = c.self.invariant in
    let f = c.in-Bytes.ensures.finds in
    let can : IsOpen i.port.end.state.got = record { unclosed = sym h.ended_is ∙ c.if-self.false; whole = ap (λ (x : Host). fault_in x.port.end.state.got) c.self.view_is ∙ c.requires.live } in
    let a = adds i.port.end.state.got c.read.new.self.end.state.got f.0 (Data (take c.in-Bytes.n c.read.new.out)) can f.1 f.2 in
    (subst (λ (x : Host). HasGot x.port.end c.read.new.self.end) c.self.view_is (f.0, f.1), a.fault)

pub returns-in-End-clause-takes : goal.returns-in-End-clause-takes
returns-in-End-clause-takes c =
    let i = c.self.inside in
    let h = c.self.invariant in
    let f = c.in-End.ensures.finds in
    let can : IsOpen i.port.end.state.got = record { unclosed = sym h.ended_is ∙ c.if-self.false; whole = ap (λ (x : Host). fault_in x.port.end.state.got) c.self.view_is ∙ c.requires.live } in
    let a = adds i.port.end.state.got c.read.new.self.end.state.got f.0 Close can f.1 f.2 in
    (subst (λ (x : Host). HasGot x.port.end c.read.new.self.end) c.self.view_is (f.0, f.1), a.fault)

pub returns-in-Fault-clause-takes : goal.returns-in-Fault-clause-takes
returns-in-Fault-clause-takes c =
    let i = c.self.inside in
    let h = c.self.invariant in
    let f = c.in-Fault.ensures.finds in
    let can : IsOpen i.port.end.state.got = record { unclosed = sym h.ended_is ∙ c.if-self.false; whole = ap (λ (x : Host). fault_in x.port.end.state.got) c.self.view_is ∙ c.requires.live } in
    let a = adds i.port.end.state.got c.read.new.self.end.state.got f.0 (Fault c.in-Fault.fault) can f.1 f.2 in
    (subst (λ (x : Host). HasGot x.port.end c.read.new.self.end) c.self.view_is (f.0, f.1), a.fault)
