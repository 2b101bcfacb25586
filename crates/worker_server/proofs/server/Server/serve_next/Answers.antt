use Rattle.std.proofs.Common.{List, ℕ, Some, refl, ap, ◌∙◌, length, subst, sym, arith, ◌+◌}
use Rattle.page_kept.specs.Items.{item_of}
use Rattle.worker_port.specs.Rooms.{KeepsRoom}
use Rattle.channel_model.specs.Amounts.{room_of}
use Rattle.worker_server.proofs.ServeSteps.{served_by}
use Rattle.worker_server.proofs.PageSteps.{pages_served, taken_next}
use Rattle.worker_server.specs.Serving.{lacks_call}
use Rattle.worker_server.proofs.server.Server.serve_next.Goals as goal

pub invariant_of-self : goal.invariant_of-self
invariant_of-self g c =
    let v = c.self.view_is in
    let p = g.T.Protocol.said (item_of c.got.result.now c.words.result.now) in
    let at = c.got.ensures.value ∙ ap (λ (ws : List ℕ). Some (g.T.Protocol.said (item_of c.got.result.now ws))) (sym c.words.ensures.value) in
    record {
      live = served_by g.T.Protocol.format g.T.Protocol.keeps g.T.Protocol.besides _ _ p (omega (arith, c.requires.some, ap (λ w. w.served) v, ap (λ w. length w.end.state.got) v)) at (ap (λ w. w.responder.owed) v ∙ c.requires.owed) (ap (λ w. lacks_call (g.T.Protocol.format w.responder.protocol) w) v ∙ c.requires.call)
          c.serve.ensures.few c.serve.ensures.same.1 c.serve.ensures.same.0 c.serve.ensures.serves c.serve.ensures.owes c.serve.ensures.size (ap (λ w. w.end.state.machine.asleep) v ∙ c.requires.ready.awake) c.self.invariant.live;
      room = subst (λ t. KeepsRoom (room_of (g.T.Protocol.besides t) (c.self.inside.starts + c.self.inside.come)) c.self.inside.port) (sym c.serve.ensures.same.0) c.self.invariant.room;
      pages = pages_served g.E.Seatlike.told g.T.Protocol.said g.T.Protocol.format g.T.Protocol.lends g.T.Protocol.besides _ _ p c.serve.ensures.same.0 (taken_next c.self.inside.port.state.got c.self.inside.served p (omega (arith, c.requires.some, ap (λ w. w.served) v, ap (λ w. length w.end.state.got) v)) at) refl c.serve.ensures.bare c.serve.ensures.back c.self.invariant.pages;
      side = c.serve.ensures.channel.0 ∙ c.self.invariant.side;
    }
