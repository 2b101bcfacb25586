use Rattle.std.proofs.Common.{refl, ap, sym, ◌∙◌, ◌+◌, subst, inl, inr}
use Rattle.channel_trace.specs.Runs.{sent_of, has_marked, has_seen, is_drained}
use Rattle.channel_trace.proofs.Pasts.{drained_seen}
use Rattle.worker_port.specs.Rooms.{KeepsRoom}
use Rattle.channel_model.specs.Amounts.{room_of}
use Rattle.worker_port.specs.Owed.{MetFull}
use Rattle.channel_model.specs.Acks.{OwnFrom}
use Rattle.worker_port.specs.declared.ended.Ended.TheVariants.{PeerMarked}
use Rattle.worker_server.proofs.OwnLaws.{none_requested}
use Rattle.worker_server.specs.Serving.{FirstFull}
use Rattle.worker_server.proofs.ServeSteps.{marked_by_protocol, ends_gone, room_gone, marks_drained, marks_gone, full_still, gone_tried, tried_gone}
use Rattle.worker_port.proofs.RoomLaws.{room_quiet, got_same, served_marked, served_so_far}
use Rattle.channel_model.specs.Acks.{own_open}
use Rattle.worker_server.proofs.PageSteps.{pages_quiet}
use Rattle.worker_server.proofs.server.Server.drop_owed.Goals as goal

pub invariant_of-self : goal.invariant_of-self
invariant_of-self g c =
    record {
      live = marked_by_protocol g.T.Protocol.format g.T.Protocol.keeps g.T.Protocol.besides _ _ c.rescind_all.new.self c.mark.ensures.past c.mark.ensures.lists.0 c.mark.ensures.awake c.mark.ensures.marked c.rescind_all.ensures.same c.self.invariant.live;
      room = subst (λ d. KeepsRoom (room_of (g.T.Protocol.besides d.protocol) (c.self.inside.starts + c.self.inside.come)) c.mark.new.self) (sym c.rescind_all.ensures.same)
          (room_quiet _ _ _ (got_same _ _ c.mark.ensures.stays.same.pages c.mark.ensures.lists.0 c.mark.ensures.lists.1) c.mark.ensures.stays.cells c.mark.ensures.lists.2 (ap sent_of c.mark.ensures.past) c.self.invariant.room);
      pages = pages_quiet g.E.Seatlike.told g.T.Protocol.said g.T.Protocol.format g.T.Protocol.lends g.T.Protocol.besides _ _ (ap (λ d. d.protocol) c.rescind_all.ensures.same) (ap (λ d. d.sheets) c.rescind_all.ensures.same) refl c.mark.ensures.lists.0 c.mark.ensures.stays.same.pages c.mark.ensures.stays.same.side c.mark.ensures.stays.tells (λ s. ap (own_open s) c.mark.ensures.past) c.mark.ensures.home c.self.invariant.pages;
      side = ap (λ d. d.side) c.rescind_all.ensures.same ∙ (c.self.invariant.side ∙ sym c.mark.ensures.stays.side);
    }

pub returns-clause-ends : goal.returns-clause-ends
returns-clause-ends g c =
    let drained = ap (λ w. is_drained w.end.state.past) c.self.view_is ∙ c.requires.drained in
    let full = subst (λ w. MetFull w.responder.owed w.end) (sym c.self.view_is) c.requires.full in
    ends_gone g.T.Protocol.format g.T.Protocol.keeps g.T.Protocol.besides (record {
      responder = c.self.inside.responder;
      end = c.self.inside.port;
      serve = c.self.inside.serve;
      stops = c.self.inside.stops;
      starts = c.self.inside.starts;
      come = c.self.inside.come;
      missing = c.self.inside.missing;
      served = c.self.inside.served;
      seen = c.self.inside.seen;
      want = c.self.inside.want;
    }) PeerMarked c.mark.new.self c.rescind_all.new.self c.rescind_all.ensures.same (
      marks_drained (g.T.Protocol.format c.self.inside.responder.protocol) (g.T.Protocol.keeps c.self.inside.responder.protocol) (g.T.Protocol.besides c.self.inside.responder.protocol) _ _ c.mark.ensures.past c.mark.ensures.lists.0 c.mark.ensures.awake c.mark.ensures.marked drained c.mark.ensures.first c.self.invariant.live,
      inl (inr (marks_gone (g.T.Protocol.format c.self.inside.responder.protocol) (g.T.Protocol.keeps c.self.inside.responder.protocol) (g.T.Protocol.besides c.self.inside.responder.protocol) _ _ c.mark.ensures.past c.mark.ensures.lists.0 c.mark.ensures.awake c.mark.ensures.marked (full_still c.self.inside.responder.owed _ _ c.mark.ensures.found full) c.self.invariant.live)),
      (subst (OwnFrom (g.T.Protocol.format c.self.inside.responder.protocol) 64) (sym c.mark.ensures.past) c.self.invariant.live.from),
      ap has_marked c.mark.ensures.past,
      ap has_seen c.mark.ensures.past ∙ drained_seen c.self.inside.port.state.past drained,
    )

pub returns-clause-room : goal.returns-clause-room
returns-clause-room g c =
    let full = subst (λ w. MetFull w.responder.owed w.end) (sym c.self.view_is) c.requires.full in
    room_gone g.T.Protocol.format g.T.Protocol.keeps g.T.Protocol.besides (record {
      responder = c.self.inside.responder;
      end = c.self.inside.port;
      serve = c.self.inside.serve;
      stops = c.self.inside.stops;
      starts = c.self.inside.starts;
      come = c.self.inside.come;
      missing = c.self.inside.missing;
      served = c.self.inside.served;
      seen = c.self.inside.seen;
      want = c.self.inside.want;
    }) g.S.Device.left PeerMarked c.mark.new.self c.rescind_all.new.self c.rescind_all.ensures.same (
      λ id. none_requested 64 id,
      (served_marked (g.T.Protocol.format c.self.inside.responder.protocol) (g.T.Protocol.besides c.self.inside.responder.protocol) c.self.inside.port _ c.mark.ensures.past
          (served_so_far (g.T.Protocol.format c.self.inside.responder.protocol) (g.T.Protocol.keeps c.self.inside.responder.protocol) (g.T.Protocol.besides c.self.inside.responder.protocol) c.self.inside.responder.held c.self.inside.serve _ _ _ _ _ c.self.inside.port
          (g.T.Protocol.may c.self.inside.responder.protocol) c.self.invariant.live.kept c.self.invariant.room)),
      inl (inr (full_still c.self.inside.responder.owed _ _ c.mark.ensures.found full, c.self.invariant.live.few)),
    )

pub returns-clause-tried : goal.returns-clause-tried
returns-clause-tried g c = λ before looked none first.
    let told = g.E.Seatlike.told in
    let tale = g.E.Seatlike.tale in
    let full = subst (λ w. MetFull w.responder.owed w.end) (sym c.self.view_is) c.requires.full in
    let first' = subst (λ w. FirstFull told tale w.responder.owed looked w.end.end) (sym c.self.view_is) first in
    tried_gone g.T.Protocol.format g.T.Protocol.keeps g.T.Protocol.besides (record {
      responder = c.self.inside.responder;
      end = c.self.inside.port;
      serve = c.self.inside.serve;
      stops = c.self.inside.stops;
      starts = c.self.inside.starts;
      come = c.self.inside.come;
      missing = c.self.inside.missing;
      served = c.self.inside.served;
      seen = c.self.inside.seen;
      want = c.self.inside.want;
    }) told tale PeerMarked before c.mark.new.self c.rescind_all.new.self c.rescind_all.ensures.same
    (inl (inr (gone_tried (g.T.Protocol.format c.self.inside.responder.protocol) (g.T.Protocol.keeps c.self.inside.responder.protocol) (g.T.Protocol.besides c.self.inside.responder.protocol) _ told tale _ before looked c.mark.ensures.past c.mark.ensures.lists.0 c.mark.ensures.awake c.mark.ensures.marked (full_still c.self.inside.responder.owed _ _ c.mark.ensures.found full) none first' c.mark.ensures.once c.self.invariant.live)))
