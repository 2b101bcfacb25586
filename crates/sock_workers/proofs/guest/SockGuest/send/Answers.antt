use Rattle.std.proofs.Common.{◌≡◌, ◌+◌, ◌∷◌, ◌++◌, [], ℕ, List, Bool, take, drop, length, min, ap, refl, sym, subst, ◌∙◌}
use Rattle.std.specs.Prelude.{vec_capacity}
use Rattle.hv_sock.specs.Packets.{sock_packet}
use Rattle.hv_sock.specs.Streams.{is_closed}
use Rattle.sock_workers.specs.Ports.{Tries}
use Rattle.sock_workers.specs.Workers.{Guest, IsGuest, packet_at}
use Rattle.sock_workers.proofs.WorkerLaws.{guest_sent, guest_shut, gone, packet_end, packet_piece}
use Rattle.sock_workers.proofs.guest.SockGuest.send.Goals as goal

pub invariant_of-self : goal.invariant_of-self
invariant_of-self c =
    let i = c.self.inside in
    let w : Guest = record { port = i.port; input = i.input.items; at = i.at; output = i.output.items } in
    let w' : Guest = record { port = c.shut-tried.new.self; input = i.input.items; at = i.at; output = i.output.items } in
    let e = c.shut-tried.ensures in
    let unclosed = ap (λ (x : Guest). is_closed x.port.end.state.sent) c.self.view_is ∙ c.requires.«open» in
    let all = c.if-self-len.true ∙ (c.len.ensures ∙ i.input.ok.0) in
    subst (λ (b : Bool). IsGuest w' b i.ended (vec_capacity i.output)) (sym c.has_gone-self-inside.ensures)
    (guest_shut w w' c.shut-tried.result i.shut i.ended _ c.self.invariant unclosed all e.tries e.closed e.got e.goes.room refl refl refl)

pub returns-then-self-len-clause-tries : goal.returns-then-self-len-clause-tries
returns-then-self-len-clause-tries c =
    let i = c.self.inside in
    let w : Guest = record { port = i.port; input = i.input.items; at = i.at; output = i.output.items } in
    let all = c.if-self-len.true ∙ (c.len.ensures ∙ i.input.ok.0) in
    subst (λ (x : Guest). Tries c.shut-tried.result (packet_at x) x.port c.shut-tried.new.self) c.self.view_is
    (subst (λ (p : List ℕ). Tries c.shut-tried.result p i.port c.shut-tried.new.self) (sym (packet_end w all)) c.shut-tried.ensures.tries)

pub invariant_of-self-then-has_gone : goal.invariant_of-self-then-has_gone
invariant_of-self-then-has_gone c =
    let i = c.self.inside in
    let n = c.min-len.result in
    let w : Guest = record { port = i.port; input = i.input.items; at = i.at; output = i.output.items } in
    let w' : Guest = record { port = c.write-tried.new.self; input = i.input.items; at = i.at + n; output = i.output.items } in
    let e = c.write-tried.ensures in
    let unclosed = ap (λ (x : Guest). is_closed x.port.end.state.sent) c.self.view_is ∙ c.requires.«open» in
    let rest : c.split_at.result.1.now ≡ drop i.at i.input.items = c.split_at.ensures.back ∙ ap (drop i.at) c.as_slice.ensures.value in
    let less : i.at ≡ length i.input.items → ⊥ = λ all. c.if-self-len.false (all ∙ sym (c.len.ensures ∙ i.input.ok.0)) in
    let is = c.min-len.ensures ∙ ap (λ (l : List ℕ). min (length l) 2048) rest in
    let sent = gone c.write-tried.result _ i.port c.write-tried.new.self (sym c.has_gone.ensures ∙ c.if-has_gone.true) e.tries in
    guest_sent w w' n i.shut i.ended _ c.self.invariant unclosed less is (sent ∙ ap (λ (l : List ℕ). i.port.end.state.sent ++ sock_packet (take n l) ∷ []) rest) e.«open» e.got e.goes.room refl refl refl

pub returns-then-has_gone-clause-tries : goal.returns-then-has_gone-clause-tries
returns-then-has_gone-clause-tries c =
    let i = c.self.inside in
    let n = c.min-len.result in
    let w : Guest = record { port = i.port; input = i.input.items; at = i.at; output = i.output.items } in
    let rest : c.split_at.result.1.now ≡ drop i.at i.input.items = c.split_at.ensures.back ∙ ap (drop i.at) c.as_slice.ensures.value in
    let is = c.min-len.ensures ∙ ap (λ (l : List ℕ). min (length l) 2048) rest in
    subst (λ (x : Guest). Tries c.write-tried.result (packet_at x) x.port c.write-tried.new.self) c.self.view_is
    (subst (λ (p : List ℕ). Tries c.write-tried.result p i.port c.write-tried.new.self) (sym (packet_piece w n is ∙ ap (λ (l : List ℕ). sock_packet (take n l)) (sym rest))) c.write-tried.ensures.tries)

pub returns-else-has_gone-clause-tries : goal.returns-else-has_gone-clause-tries
returns-else-has_gone-clause-tries c =
    let i = c.self.inside in
    let n = c.min-len.result in
    let w : Guest = record { port = i.port; input = i.input.items; at = i.at; output = i.output.items } in
    let rest : c.split_at.result.1.now ≡ drop i.at i.input.items = c.split_at.ensures.back ∙ ap (drop i.at) c.as_slice.ensures.value in
    let is = c.min-len.ensures ∙ ap (λ (l : List ℕ). min (length l) 2048) rest in
    subst (λ (x : Guest). Tries c.write-tried.result (packet_at x) x.port c.write-tried.new.self) c.self.view_is
    (subst (λ (p : List ℕ). Tries c.write-tried.result p i.port c.write-tried.new.self) (sym (packet_piece w n is ∙ ap (λ (l : List ℕ). sock_packet (take n l)) (sym rest))) c.write-tried.ensures.tries)
