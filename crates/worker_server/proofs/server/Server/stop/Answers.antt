use Rattle.std.proofs.Common.{refl, ap, sym, ◌∙◌, length, ◌+◌, subst, inl}
use Rattle.channel_trace.specs.Runs.{sent_of, has_marked, has_seen}
use Rattle.worker_port.specs.Rooms.{KeepsRoom}
use Rattle.channel_model.specs.Amounts.{room_of}
use Rattle.channel_model.specs.Acks.{OwnFrom}
use Rattle.worker_server.specs.Serving.{has_done}
use Rattle.worker_server.proofs.OwnLaws.{none_requested}
use Rattle.worker_server.proofs.ServeSteps.{done_parts, marked_by_protocol, ends_gone, room_gone, calls_each, marks_stopped, marks_answered, ends_by, lacks_none, tried_by, tried_gone}
use Rattle.worker_port.proofs.RoomLaws.{room_quiet, got_same, served_marked, served_so_far}
use Rattle.channel_model.specs.Acks.{own_open}
use Rattle.worker_server.proofs.PageSteps.{pages_quiet}
use Rattle.worker_server.proofs.server.Server.stop.Goals as goal

pub invariant_of-self : goal.invariant_of-self
invariant_of-self g c =
    record {
      live = marked_by_protocol g.T.Protocol.format g.T.Protocol.keeps g.T.Protocol.besides _ _ c.rescind_all.new.self c.mark.ensures.past c.mark.ensures.lists.0 c.mark.ensures.awake c.mark.ensures.marked c.rescind_all.ensures.same c.self.invariant.live;
      room = subst (λ d. KeepsRoom (room_of (g.T.Protocol.besides d.protocol) (c.self.inside.starts + c.self.inside.come)) c.mark.new.self) (sym c.rescind_all.ensures.same)
          (room_quiet _ _ _ (got_same _ _ c.mark.ensures.stays.same.pages c.mark.ensures.lists.0 c.mark.ensures.lists.1) c.mark.ensures.stays.cells c.mark.ensures.lists.2 (ap sent_of c.mark.ensures.past) c.self.invariant.room);
      pages = pages_quiet g.E.Seatlike.told g.T.Protocol.said g.T.Protocol.format g.T.Protocol.lends g.T.Protocol.besides _ _ (ap (λ d. d.protocol) c.rescind_all.ensures.same) (ap (λ d. d.sheets) c.rescind_all.ensures.same) refl c.mark.ensures.lists.0 c.mark.ensures.stays.same.pages c.mark.ensures.stays.same.side c.mark.ensures.stays.tells (λ s. ap (own_open s) c.mark.ensures.past) c.mark.ensures.home c.self.invariant.pages;
      side = ap (λ d. d.side) c.rescind_all.ensures.same ∙ (c.self.invariant.side ∙ sym c.mark.ensures.stays.side);
    }

pub returns-clause-ends : goal.returns-clause-ends
returns-clause-ends g c =
    let v = c.self.view_is in
    let done = done_parts (record {
      responder = c.self.inside.responder;
      end = c.self.inside.port;
      serve = c.self.inside.serve;
      stops = c.self.inside.stops;
      starts = c.self.inside.starts;
      come = c.self.inside.come;
      missing = c.self.inside.missing;
      served = c.self.inside.served;
      seen = c.self.inside.seen;
      want = c.self.inside.want;
    }) (ap has_done v ∙ c.requires.done) in
    let none = ap (λ w. w.responder.owed) v ∙ c.requires.owed in
    let all = ap (λ w. w.served) v ∙ (c.requires.served ∙ ap (λ w. length w.end.state.got) (sym v)) in
    rw c.marked_by.ensures (ends_gone g.T.Protocol.format g.T.Protocol.keeps g.T.Protocol.besides (record {
      responder = c.self.inside.responder;
      end = c.self.inside.port;
      serve = c.self.inside.serve;
      stops = c.self.inside.stops;
      starts = c.self.inside.starts;
      come = c.self.inside.come;
      missing = c.self.inside.missing;
      served = c.self.inside.served;
      seen = c.self.inside.seen;
      want = c.self.inside.want;
    }) _ c.mark.new.self c.rescind_all.new.self c.rescind_all.ensures.same
    (ends_by (g.T.Protocol.format c.self.inside.responder.protocol) (g.T.Protocol.keeps c.self.inside.responder.protocol) (g.T.Protocol.besides c.self.inside.responder.protocol) _ c.self.inside.seen
    (marks_stopped (g.T.Protocol.format c.self.inside.responder.protocol) (g.T.Protocol.keeps c.self.inside.responder.protocol) (g.T.Protocol.besides c.self.inside.responder.protocol) _ _ c.mark.ensures.past c.mark.ensures.lists.0 c.mark.ensures.awake c.mark.ensures.marked done.0 none all done.2 done.1 c.self.invariant.live)
    (marks_answered (g.T.Protocol.format c.self.inside.responder.protocol) (g.T.Protocol.keeps c.self.inside.responder.protocol) (g.T.Protocol.besides c.self.inside.responder.protocol) _ _ c.mark.ensures.past c.mark.ensures.lists.0 c.mark.ensures.awake c.mark.ensures.marked c.mark.ensures.got none all c.self.invariant.live)
    (subst (OwnFrom (g.T.Protocol.format c.self.inside.responder.protocol) 64) (sym c.mark.ensures.past) c.self.invariant.live.from) (ap has_marked c.mark.ensures.past) (ap has_seen c.mark.ensures.past ∙ c.self.invariant.live.saw)))

pub returns-clause-room : goal.returns-clause-room
returns-clause-room g c =
    let v = c.self.view_is in
    let all = ap (λ w. w.served) v ∙ (c.requires.served ∙ ap (λ w. length w.end.state.got) (sym v)) in
    rw c.marked_by.ensures (room_gone g.T.Protocol.format g.T.Protocol.keeps g.T.Protocol.besides (record {
      responder = c.self.inside.responder;
      end = c.self.inside.port;
      serve = c.self.inside.serve;
      stops = c.self.inside.stops;
      starts = c.self.inside.starts;
      come = c.self.inside.come;
      missing = c.self.inside.missing;
      served = c.self.inside.served;
      seen = c.self.inside.seen;
      want = c.self.inside.want;
    }) g.S.Device.left _ c.mark.new.self c.rescind_all.new.self c.rescind_all.ensures.same
    (lacks_none (g.T.Protocol.format c.self.inside.responder.protocol) (g.T.Protocol.keeps c.self.inside.responder.protocol) (g.T.Protocol.besides c.self.inside.responder.protocol) _ g.S.Device.left c.self.inside.seen (λ id. none_requested 64 id)
    (served_marked (g.T.Protocol.format c.self.inside.responder.protocol) (g.T.Protocol.besides c.self.inside.responder.protocol) c.self.inside.port _ c.mark.ensures.past
    (served_so_far (g.T.Protocol.format c.self.inside.responder.protocol) (g.T.Protocol.keeps c.self.inside.responder.protocol) (g.T.Protocol.besides c.self.inside.responder.protocol) c.self.inside.responder.held c.self.inside.serve _ _ _ _ _ c.self.inside.port
    (g.T.Protocol.may c.self.inside.responder.protocol) c.self.invariant.live.kept c.self.invariant.room))
    (inl (inl
    (ap (λ w. w.responder.owed) v ∙ c.requires.owed, all ∙ ap length (sym c.mark.ensures.lists.0), calls_each (g.T.Protocol.format c.self.inside.responder.protocol) (g.T.Protocol.keeps c.self.inside.responder.protocol) (g.T.Protocol.besides c.self.inside.responder.protocol) _ c.mark.new.self.state.past (c.mark.ensures.got ∙ c.mark.ensures.lists.0) all c.self.invariant.live)))))

pub returns-clause-tried : goal.returns-clause-tried
returns-clause-tried g c = λ before.
    let v = c.self.view_is in
    let told = g.E.Seatlike.told in
    let tale = g.E.Seatlike.tale in
    let none = ap (λ w. w.responder.owed) v ∙ c.requires.owed in
    let all = ap (λ w. w.served) v ∙ (c.requires.served ∙ ap (λ w. length w.end.state.got) (sym v)) in
    rw c.marked_by.ensures (tried_gone g.T.Protocol.format g.T.Protocol.keeps g.T.Protocol.besides (record {
      responder = c.self.inside.responder;
      end = c.self.inside.port;
      serve = c.self.inside.serve;
      stops = c.self.inside.stops;
      starts = c.self.inside.starts;
      come = c.self.inside.come;
      missing = c.self.inside.missing;
      served = c.self.inside.served;
      seen = c.self.inside.seen;
      want = c.self.inside.want;
    }) told tale _ before c.mark.new.self c.rescind_all.new.self c.rescind_all.ensures.same
    (tried_by (g.T.Protocol.format c.self.inside.responder.protocol) (g.T.Protocol.keeps c.self.inside.responder.protocol) (g.T.Protocol.besides c.self.inside.responder.protocol) _ told tale c.self.inside.seen before
    (marks_answered (g.T.Protocol.format c.self.inside.responder.protocol) (g.T.Protocol.keeps c.self.inside.responder.protocol) (g.T.Protocol.besides c.self.inside.responder.protocol) _ _ c.mark.ensures.past c.mark.ensures.lists.0 c.mark.ensures.awake c.mark.ensures.marked c.mark.ensures.got none all c.self.invariant.live)))
