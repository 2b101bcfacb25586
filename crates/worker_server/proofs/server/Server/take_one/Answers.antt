use Rattle.std.proofs.Common.{List, ℕ, refl, ap, ◌∙◌, subst, ◌≡◌, ◌-◌, ◌+◌, sym}
use Rattle.std.specs.Prelude.{if◌then◌else◌, ◌&&◌}
use Rattle.channel_trace.specs.Runs.{sent_of}
use Rattle.page_kept.specs.Items.{item_of}
use Rattle.channel_model.specs.Acks.{own_open}
use Rattle.worker_server.proofs.PageSteps.{pages_quiet, pages_took}
use Rattle.worker_port.specs.Rooms.{KeepsRoom}
use Rattle.channel_model.specs.Amounts.{room_of}
use Rattle.worker_server.specs.Serving.{Closes}
use Rattle.worker_server.proofs.ServeSteps.{took_by, empty_kept}
use Rattle.worker_port.proofs.RoomLaws.{room_quiet}
use Rattle.worker_server.proofs.server.Server.take_one.Goals as goal

pub invariant_of-self-in-Nothing : goal.invariant_of-self-in-Nothing
invariant_of-self-in-Nothing g c =
    record {
      live = empty_kept (g.T.Protocol.format c.self.inside.responder.protocol) (g.T.Protocol.keeps c.self.inside.responder.protocol) (g.T.Protocol.besides c.self.inside.responder.protocol) _ _ c.in-Nothing.ensures.took.0 c.in-Nothing.ensures.took.1 c.in-Nothing.ensures.finds.awake (ap (λ w. w.end.state.machine.marked) c.self.view_is ∙ c.requires.ready.unmarked) c.self.invariant.live;
      room = room_quiet _ _ _ c.take.ensures.into c.take.ensures.stays.cells c.take.ensures.sent (ap sent_of c.in-Nothing.ensures.took.0) c.self.invariant.room;
      pages = pages_quiet g.E.Seatlike.told g.T.Protocol.said g.T.Protocol.format g.T.Protocol.lends g.T.Protocol.besides _ _ refl refl refl c.in-Nothing.ensures.took.1 c.take.ensures.stays.same.pages c.take.ensures.stays.same.side c.take.ensures.stays.tells (λ s. ap (own_open s) c.in-Nothing.ensures.took.0) c.in-Nothing.ensures.home c.self.invariant.pages;
      side = c.self.invariant.side ∙ sym c.take.ensures.stays.side;
    }

pub invariant_of-self : goal.invariant_of-self
invariant_of-self g c =
    let s = g.T.Protocol.format c.self.inside.responder.protocol in
    let t = c.in-Packet.ensures.took in
    let same = ap (λ (ws : List ℕ). g.T.Protocol.said (item_of c.last-packet.result.now ws)) c.last_words-words.ensures.value ∙ c.last-packet.ensures.value c.self.inside.port.state.got t.0 t.2 in
    let less = subst (λ q. c.missing_after-self-inside.result ≡ c.self.inside.missing - (if s.is_request q && s.waits q then 1 else 0)) same c.missing_after-self-inside.ensures in
    let closes = subst (λ q. Closes s c.self.inside.responder.owed q c.self.inside.responder.table c.close.new.self.table) same c.close.ensures.closes in
    record {
      live = took_by g.T.Protocol.format g.T.Protocol.keeps g.T.Protocol.besides _ _ c.close.new.self _ _ t.1 t.2 c.in-Packet.ensures.finds.awake less closes c.close.ensures.size c.close.ensures.same (ap (λ w. w.end.state.machine.marked) c.self.view_is ∙ c.requires.ready.unmarked) c.self.invariant.live;
      room = subst (λ d. KeepsRoom (room_of (g.T.Protocol.besides d.protocol) (c.self.inside.starts + c.self.inside.come)) c.take.new.self) (sym c.close.ensures.same)
          (room_quiet _ _ _ c.take.ensures.into c.take.ensures.stays.cells c.take.ensures.sent (ap sent_of t.1) c.self.invariant.room);
      pages = pages_took g.E.Seatlike.told g.T.Protocol.said g.T.Protocol.format g.T.Protocol.lends g.T.Protocol.besides _ _ t.0 g.T.Protocol.paged (ap (λ d. d.protocol) c.close.ensures.same) (ap (λ d. d.sheets) c.close.ensures.same) refl t.2 c.self.invariant.live.within c.take.ensures.stays.same.pages c.take.ensures.stays.same.side c.take.ensures.stays.tells t.1
          (c.self.invariant.live.own (ap (λ w. w.end.state.machine.marked) c.self.view_is ∙ c.requires.ready.unmarked)) (λ f. c.in-Packet.ensures.home f t.0 t.2) c.self.invariant.pages;
      side = ap (λ d. d.side) c.close.ensures.same ∙ (c.self.invariant.side ∙ sym c.take.ensures.stays.side);
    }
