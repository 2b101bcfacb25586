use Rattle.std.proofs.Common.{◌≡◌, ◌++◌, Bool, Option, true, false, ap, sym, ◌∙◌, subst}
use Rattle.ring_core.specs.Seen.{Seen}
use Rattle.hv_sock.specs.declared.sock_fault.SockFault.{SockFault}
use Rattle.hv_sock.specs.Streams.{IsOpen, bytes_read, closes, fault_in, is_closed, stream_of}
use Rattle.hv_sock.specs.Ends.{IsSock}
use Rattle.hv_sock.proofs.CallLaws.{read_closed, read_fault, read_stands, read_stream}
use Rattle.hv_sock.proofs.PacketLaws.{broken, closed_whole}
use Rattle.hv_sock.proofs.sock_end.SockEnd.read.Goals as goal

pub returns-then-self-clause-broken : goal.returns-then-self-clause-broken
returns-then-self-clause-broken g c = λ f is.
    let closed : is_closed c.args.self.now.state.got ≡ true = ap (λ (x : Seen _). is_closed x.state.got) (sym c.self.view_is) ∙ (sym c.self.invariant.ended_is ∙ c.if-self.true) in
    let bad : true ≡ false = sym closed ∙ (broken c.args.self.now.state.got f is).0 in
    absurd (cc)

pub returns-then-self-clause-fault : goal.returns-then-self-clause-fault
returns-then-self-clause-fault g c = closed_whole c.args.self.now.state.got (ap (λ (x : Seen _). is_closed x.state.got) (sym c.self.view_is) ∙ (sym c.self.invariant.ended_is ∙ c.if-self.true))

pub returns-in-Some-clause-closed : goal.returns-in-Some-clause-closed
returns-in-Some-clause-closed g c =
    let is = ap (λ (x : Seen _). fault_in x.state.got) (sym c.self.view_is) ∙ (sym c.self.invariant.fault_is ∙ c.in-Some.is) in
    let b = broken c.args.self.now.state.got c.in-Some.fault is in
    b.0 ∙ sym b.1.0

pub returns-in-Some-clause-fault : goal.returns-in-Some-clause-fault
returns-in-Some-clause-fault g c =
    let is = ap (λ (x : Seen _). fault_in x.state.got) (sym c.self.view_is) ∙ (sym c.self.invariant.fault_is ∙ c.in-Some.is) in
    let b = broken c.args.self.now.state.got c.in-Some.fault is in
    is ∙ sym b.1.1

pub invariant_of-self : goal.invariant_of-self
invariant_of-self g c =
    let can : IsOpen c.self.inside.end.state.got = record { unclosed = sym c.self.invariant.ended_is ∙ c.if-self.false; whole = sym c.self.invariant.fault_is ∙ c.in-None.is } in
    let stands = read_stands _ _ _ _ _ _ _ _ _ _ _ c.self.invariant can c.read_next-answer.ensures.reads c.read_next-answer.ensures.bare in
    subst (λ (b : Bool). IsSock c.read_next-answer.new.end c.self.inside.shut b c.breaks_off-self-inside.result) (sym c.closes-self-inside.ensures)
    (subst (λ (o : Option SockFault). IsSock c.read_next-answer.new.end c.self.inside.shut (closes c.read_next-answer.result) o) (sym c.breaks_off-self-inside.ensures) stands)

pub returns-in-None-clause-stream : goal.returns-in-None-clause-stream
returns-in-None-clause-stream g c =
    let can : IsOpen c.self.inside.end.state.got = record { unclosed = sym c.self.invariant.ended_is ∙ c.if-self.false; whole = sym c.self.invariant.fault_is ∙ c.in-None.is } in
    read_stream _ _ _ _ _ _ _ _ can c.read_next-answer.ensures.reads ∙ ap (λ (x : Seen _). stream_of x.state.got ++ bytes_read c.read_next-answer.result c.read_next-answer.new.out) c.self.view_is

pub returns-in-None-clause-closed : goal.returns-in-None-clause-closed
returns-in-None-clause-closed g c =
    let can : IsOpen c.self.inside.end.state.got = record { unclosed = sym c.self.invariant.ended_is ∙ c.if-self.false; whole = sym c.self.invariant.fault_is ∙ c.in-None.is } in
    read_closed _ _ _ _ _ _ _ _ can c.read_next-answer.ensures.reads

pub returns-in-None-clause-fault : goal.returns-in-None-clause-fault
returns-in-None-clause-fault g c =
    let can : IsOpen c.self.inside.end.state.got = record { unclosed = sym c.self.invariant.ended_is ∙ c.if-self.false; whole = sym c.self.invariant.fault_is ∙ c.in-None.is } in
    read_fault _ _ _ _ _ _ _ _ can c.read_next-answer.ensures.reads
