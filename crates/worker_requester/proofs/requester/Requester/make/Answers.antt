use Rattle.std.proofs.Common.{◌≡◌, ℕ, ap, sym, ◌∙◌, length, subst, None, Option}
use Rattle.std.proofs.lemmas.List.{length-replicate}
use Rattle.worker_port.specs.Rooms.{KeepsRoom}
use Rattle.channel_model.specs.Amounts.{room_of}
use Rattle.ring_machine.specs.declared.state.EndState.{EndState}
use Rattle.worker_requester.specs.Asking.{FitsPages}
use Rattle.worker_requester.proofs.requester.Requester.make.Goals as goal

pub over-requires-clause-fresh : goal.over-requires-clause-fresh
over-requires-clause-fresh g c = let e = c.in-Ok.ensures.new in (e.0, e.1, ap (λ m. m.asleep) e.2 ∙ ap (λ s. s.machine.asleep) c.requires.fresh)

pub over-requires-clause-side : goal.over-requires-clause-side
over-requires-clause-side g c = c.requires.side ∙ sym (ap (λ m. m.side) c.in-Ok.ensures.new.2)

pub over-requires-clause-room : goal.over-requires-clause-room
over-requires-clause-room g c =
    let p : c.room_of-packets.result ≡ room_of (g.T.Protocol.besides c.args.protocol) (length (g.T.Protocol.asks c.args.protocol)) =
    c.room_of-packets.ensures.value ∙ (ap (λ b. room_of b c.count-count.result) c.besides.ensures ∙ ap (room_of (g.T.Protocol.besides c.args.protocol)) c.count-count.ensures) in
    subst (λ n. KeepsRoom n c.in-Ok.port) p c.in-Ok.ensures.room

pub over-requires-clause-window : goal.over-requires-clause-window
over-requires-clause-window g c = (c.args.window, c.requires.window.1, c.in-Ok-make.ensures.table)

pub returns-in-Ok-make-clause-window : goal.returns-in-Ok-make-clause-window
returns-in-Ok-make-clause-window g c = let none : Option ℕ = None in ap length (c.over.ensures.parts.1 ∙ c.in-Ok-make.ensures.table) ∙ length-replicate c.args.window none

pub over-requires-clause-pages : goal.over-requires-clause-pages
over-requires-clause-pages g c =
    let none : Option ℕ = None in
    let size = ap length c.in-Ok-make.ensures.table ∙ length-replicate c.args.window none in
    subst (λ (z : ℕ × EndState). FitsPages (g.T.Protocol.lends c.args.protocol) z.0 z.1) (λ i. (sym size i, sym c.in-Ok.ensures.end.0 i)) c.requires.pages
