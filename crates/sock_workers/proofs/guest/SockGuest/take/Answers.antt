use Rattle.std.proofs.Common.{◌≡◌, ◌++◌, ℕ, Bool, List, cond, take, is_ok, length-take, true, ap, sym, refl, ◌∙◌, subst, arith, append-nil}
use Rattle.std.proofs.lemmas.Bool.Decides.{nat_tests}
use Rattle.hv_sock.specs.Packets.{Data, Close, Fault}
use Rattle.hv_sock.specs.Streams.{IsOpen, fault_in, stream_of}
use Rattle.sock_workers.specs.Workers.{Guest, HasGot, LacksRoom}
use Rattle.sock_workers.proofs.WorkerLaws.{adds, guest_lacks, guest_read}
use Rattle.sock_workers.proofs.guest.SockGuest.take.Goals as goal

pub returns-then-capacity-len-lt-PIECE-clause-takes : goal.returns-then-capacity-len-lt-PIECE-clause-takes
returns-then-capacity-len-lt-PIECE-clause-takes c =
    let i = c.self.inside in
    let w : Guest = record { port = i.port; input = i.input.items; at = i.at; output = i.output.items } in
    subst (λ (x : Guest). LacksRoom x.port.room x.port.end) c.self.view_is
    (guest_lacks w i.shut i.ended _ c.self.invariant c.if-self.false (grind (arith, nat_tests, c.if-capacity-len-lt-PIECE.true, c.capacity.ensures, c.len.ensures, i.output.ok.0)))

pub invariant_of-self : goal.invariant_of-self
invariant_of-self c =
    let i = c.self.inside in
    let h = c.self.invariant in
    let f = c.in-Bytes.ensures.finds in
    let can : IsOpen i.port.end.state.got = record { unclosed = sym h.ended_is ∙ c.if-self.false; whole = ap (λ (w : Guest). fault_in w.port.end.state.got) c.self.view_is ∙ c.requires.live } in
    let a = adds i.port.end.state.got c.read.new.self.end.state.got f.0 (Data _) can f.1 f.2 in
    let fits : is_ok c.extend_from_slice-kept.result ≡ true = c.extend_from_slice-kept.ensures.succeeds (grind (arith, nat_tests, c.if-capacity-len-lt-PIECE.false, c.capacity.ensures, c.len.ensures, i.output.ok.0, f.4, length-take c.in-Bytes.n c.read.new.out)) in
    guest_read (record { port = i.port; input = i.input.items; at = i.at; output = i.output.items }) (record { port = c.read.new.self; input = i.input.items; at = i.at; output = c.extend_from_slice-kept.new.self.items }) i.shut i.ended i.ended _ _ h
    c.read.ensures.sent refl refl c.read.ensures.goes.room (c.if-self.false ∙ sym a.closed)
    (c.extend_from_slice-kept.ensures.items ∙ (ap (λ (b : Bool). cond b (i.output.items ++ take c.in-Bytes.n c.read.new.out) i.output.items) fits ∙ (ap (λ (l : List ℕ). l ++ take c.in-Bytes.n c.read.new.out) h.keeps ∙ sym (a.stream ∙ ap (λ (l : List ℕ). stream_of i.port.end.state.got ++ l) (append-nil (take c.in-Bytes.n c.read.new.out))))))
    c.extend_from_slice-kept.ensures.capacity

pub invariant_of-self-in-End : goal.invariant_of-self-in-End
invariant_of-self-in-End c =
    let i = c.self.inside in
    let h = c.self.invariant in
    let f = c.in-End.ensures.finds in
    let can : IsOpen i.port.end.state.got = record { unclosed = sym h.ended_is ∙ c.if-self.false; whole = ap (λ (w : Guest). fault_in w.port.end.state.got) c.self.view_is ∙ c.requires.live } in
    let a = adds i.port.end.state.got c.read.new.self.end.state.got f.0 Close can f.1 f.2 in
    guest_read (record { port = i.port; input = i.input.items; at = i.at; output = i.output.items }) (record { port = c.read.new.self; input = i.input.items; at = i.at; output = i.output.items }) i.shut i.ended _ _ _ h
    c.read.ensures.sent refl refl c.read.ensures.goes.room (sym a.closed) (h.keeps ∙ sym (a.stream ∙ append-nil (stream_of i.port.end.state.got))) (omega arith)

pub invariant_of-self-in-Fault : goal.invariant_of-self-in-Fault
invariant_of-self-in-Fault c =
    let i = c.self.inside in
    let h = c.self.invariant in
    let f = c.in-Fault.ensures.finds in
    let can : IsOpen i.port.end.state.got = record { unclosed = sym h.ended_is ∙ c.if-self.false; whole = ap (λ (w : Guest). fault_in w.port.end.state.got) c.self.view_is ∙ c.requires.live } in
    let a = adds i.port.end.state.got c.read.new.self.end.state.got f.0 (Fault _) can f.1 f.2 in
    guest_read (record { port = i.port; input = i.input.items; at = i.at; output = i.output.items }) (record { port = c.read.new.self; input = i.input.items; at = i.at; output = i.output.items }) i.shut i.ended i.ended _ _ h
    c.read.ensures.sent refl refl c.read.ensures.goes.room (c.if-self.false ∙ sym a.closed) (h.keeps ∙ sym (a.stream ∙ append-nil (stream_of i.port.end.state.got))) (omega arith)

pub returns-in-Bytes-clause-takes : goal.returns-in-Bytes-clause-takes
returns-in-Bytes-clause-takes c =
    let i = c.self.inside in
    let h = c.self.invariant in
    let f = c.in-Bytes.ensures.finds in
    let can : IsOpen i.port.end.state.got = record { unclosed = sym h.ended_is ∙ c.if-self.false; whole = ap (λ (w : Guest). fault_in w.port.end.state.got) c.self.view_is ∙ c.requires.live } in
    let a = adds i.port.end.state.got c.read.new.self.end.state.got f.0 (Data _) can f.1 f.2 in
    (subst (λ (w : Guest). HasGot w.port.end c.read.new.self.end) c.self.view_is (f.0, f.1), a.fault)

pub returns-in-End-clause-takes : goal.returns-in-End-clause-takes
returns-in-End-clause-takes c =
    let i = c.self.inside in
    let h = c.self.invariant in
    let f = c.in-End.ensures.finds in
    let can : IsOpen i.port.end.state.got = record { unclosed = sym h.ended_is ∙ c.if-self.false; whole = ap (λ (w : Guest). fault_in w.port.end.state.got) c.self.view_is ∙ c.requires.live } in
    let a = adds i.port.end.state.got c.read.new.self.end.state.got f.0 Close can f.1 f.2 in
    (subst (λ (w : Guest). HasGot w.port.end c.read.new.self.end) c.self.view_is (f.0, f.1), a.fault)

pub returns-in-Fault-clause-takes : goal.returns-in-Fault-clause-takes
returns-in-Fault-clause-takes c =
    let i = c.self.inside in
    let h = c.self.invariant in
    let f = c.in-Fault.ensures.finds in
    let can : IsOpen i.port.end.state.got = record { unclosed = sym h.ended_is ∙ c.if-self.false; whole = ap (λ (w : Guest). fault_in w.port.end.state.got) c.self.view_is ∙ c.requires.live } in
    let a = adds i.port.end.state.got c.read.new.self.end.state.got f.0 (Fault _) can f.1 f.2 in
    (subst (λ (w : Guest). HasGot w.port.end c.read.new.self.end) c.self.view_is (f.0, f.1), a.fault)
