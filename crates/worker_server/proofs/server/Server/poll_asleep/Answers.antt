use Rattle.std.proofs.Common.{refl, ap, ◌∙◌, sym}
use Rattle.channel_trace.specs.Runs.{sent_of}
use Rattle.worker_server.proofs.ServeSteps.{still_kept, rests_at}
use Rattle.worker_port.proofs.RoomLaws.{room_quiet, got_same}
use Rattle.channel_model.specs.Acks.{own_open}
use Rattle.worker_server.proofs.PageSteps.{pages_quiet}
use Rattle.worker_server.proofs.server.Server.poll_asleep.Goals as goal

pub invariant_of-self-2 : goal.invariant_of-self-2
invariant_of-self-2 g c =
    let r = c.self.invariant.live.rests (ap (λ w. w.end.state.machine.asleep) c.self.view_is ∙ c.requires.asleep) in
    record {
      live = still_kept (g.T.Protocol.format c.self.inside.responder.protocol) (g.T.Protocol.keeps c.self.inside.responder.protocol) (g.T.Protocol.besides c.self.inside.responder.protocol) _ _ c.self.inside.want c.if-poll.ensures.past c.if-poll.ensures.lists.0 (λ _. rests_at (g.T.Protocol.format c.self.inside.responder.protocol) (g.T.Protocol.keeps c.self.inside.responder.protocol) (g.T.Protocol.besides c.self.inside.responder.protocol) (record {
        responder = c.self.inside.responder;
        end = c.self.inside.port;
        serve = c.self.inside.serve;
        stops = c.self.inside.stops;
        starts = c.self.inside.starts;
        come = c.self.inside.come;
        missing = c.self.inside.missing;
        served = c.self.inside.served;
        seen = c.self.inside.seen;
        want = c.self.inside.want;
      }) _ c.self.inside.want r.want (record { asleep = c.if-poll.ensures.asleep; want_is = c.poll.ensures.want c.if-poll.ensures.asleep ∙ r.armed.want_is }) c.poll.ensures.stays.same.pages c.if-poll.ensures.lists.2 r.room c.if-poll.ensures.lists.0 r.waits c.if-poll.ensures.past r.unseen) (ap (λ w. w.end.state.machine.marked) c.self.view_is ∙ c.requires.unmarked) c.self.invariant.live;
      room = room_quiet _ _ _ (got_same _ _ c.poll.ensures.stays.same.pages c.poll.ensures.lists.0 c.poll.ensures.lists.1) c.poll.ensures.stays.cells c.poll.ensures.lists.2 (ap sent_of c.if-poll.ensures.past) c.self.invariant.room;
      pages = pages_quiet g.E.Seatlike.told g.T.Protocol.said g.T.Protocol.format g.T.Protocol.lends g.T.Protocol.besides _ _ refl refl refl c.poll.ensures.lists.0 c.poll.ensures.stays.same.pages c.poll.ensures.stays.same.side c.poll.ensures.stays.tells (λ s. ap (own_open s) c.poll.ensures.past) c.poll.ensures.home c.self.invariant.pages;
      side = c.self.invariant.side ∙ sym c.poll.ensures.stays.side;
    }

pub returns-clause-turns : goal.returns-clause-turns
returns-clause-turns g c =
    let r = c.self.invariant.live.rests (ap (λ w. w.end.state.machine.asleep) c.self.view_is ∙ c.requires.asleep) in (
      c.if-poll.ensures.unmarked,
      c.if-poll.ensures.asleep,
      rests_at (g.T.Protocol.format c.self.inside.responder.protocol) (g.T.Protocol.keeps c.self.inside.responder.protocol) (g.T.Protocol.besides c.self.inside.responder.protocol) (record {
        responder = c.self.inside.responder;
        end = c.self.inside.port;
        serve = c.self.inside.serve;
        stops = c.self.inside.stops;
        starts = c.self.inside.starts;
        come = c.self.inside.come;
        missing = c.self.inside.missing;
        served = c.self.inside.served;
        seen = c.self.inside.seen;
        want = c.self.inside.want;
      }) _ c.self.inside.want r.want (record { asleep = c.if-poll.ensures.asleep; want_is = c.poll.ensures.want c.if-poll.ensures.asleep ∙ r.armed.want_is }) c.poll.ensures.stays.same.pages c.if-poll.ensures.lists.2 r.room c.if-poll.ensures.lists.0 r.waits c.if-poll.ensures.past r.unseen,
    )
