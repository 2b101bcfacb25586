use Rattle.std.proofs.Common.{refl, ◌≡◌, ap, sym, ◌∙◌, subst, true}
use Rattle.channel_trace.specs.Runs.{sent_of}
use Rattle.worker_port.specs.Owed.{is_nil}
use Rattle.worker_port.specs.Tries.{FoundNone, FoundNothing}
use Rattle.worker_server.specs.Serving.{HasRoomFor, HasToWait, OwedTried}
use Rattle.worker_server.proofs.ServeSteps.{saw_kept, still_kept, rests_at, rests_tried}
use Rattle.worker_port.proofs.RoomLaws.{room_quiet, got_same}
use Rattle.channel_model.specs.Acks.{own_open}
use Rattle.worker_server.proofs.PageSteps.{pages_quiet}
use Rattle.worker_server.proofs.server.Server.arm_or_sleep.Goals as goal

pub invariant_of-self : goal.invariant_of-self
invariant_of-self g c =
    let v = c.self.view_is in
    record {
      live = still_kept (g.T.Protocol.format c.self.inside.responder.protocol) (g.T.Protocol.keeps c.self.inside.responder.protocol) (g.T.Protocol.besides c.self.inside.responder.protocol) _ _ c.need-want.result c.in-Nothing.ensures.past c.arm.ensures.lists.0 (λ _. rests_at (g.T.Protocol.format c.self.inside.responder.protocol) (g.T.Protocol.keeps c.self.inside.responder.protocol) (g.T.Protocol.besides c.self.inside.responder.protocol) (record {
        responder = c.self.inside.responder;
        end = c.self.inside.port;
        serve = c.self.inside.serve;
        stops = c.self.inside.stops;
        starts = c.self.inside.starts;
        come = c.self.inside.come;
        missing = c.self.inside.missing;
        served = c.self.inside.served;
        seen = c.self.inside.seen;
        want = c.self.inside.want;
      }) _ c.need-want.result c.need-want.ensures.value (record { asleep = c.in-Nothing.ensures.asleep; want_is = c.arm.ensures.want c.in-Nothing.ensures.asleep }) c.arm.ensures.stays.same.pages c.arm.ensures.lists.2 (subst (λ w. HasRoomFor w.responder.owed w.end) (sym v) c.requires.room) c.arm.ensures.lists.0 (subst (λ w. is_nil w.responder.owed ≡ true → HasToWait (g.T.Protocol.format w.responder.protocol) (g.T.Protocol.besides w.responder.protocol) w) (sym v) c.requires.waits) c.in-Nothing.ensures.past (ap (λ w. w.seen) v ∙ c.requires.unseen)) (ap (λ w. w.end.state.machine.marked) c.self.view_is ∙ c.requires.ready.unmarked) c.self.invariant.live;
      room = room_quiet _ _ _ (got_same _ _ c.arm.ensures.stays.same.pages c.arm.ensures.lists.0 c.arm.ensures.lists.1) c.arm.ensures.stays.cells c.arm.ensures.lists.2 (ap sent_of c.in-Nothing.ensures.past) c.self.invariant.room;
      pages = pages_quiet g.E.Seatlike.told g.T.Protocol.said g.T.Protocol.format g.T.Protocol.lends g.T.Protocol.besides _ _ refl refl refl c.arm.ensures.lists.0 c.arm.ensures.stays.same.pages c.arm.ensures.stays.same.side c.arm.ensures.stays.tells (λ s. ap (own_open s) c.in-Nothing.ensures.past) c.arm.ensures.home c.self.invariant.pages;
      side = c.self.invariant.side ∙ sym c.arm.ensures.stays.side;
    }

pub invariant_of-self-in-Mark : goal.invariant_of-self-in-Mark
invariant_of-self-in-Mark g c =
    record {
      live = saw_kept (g.T.Protocol.format c.self.inside.responder.protocol) (g.T.Protocol.keeps c.self.inside.responder.protocol) (g.T.Protocol.besides c.self.inside.responder.protocol) _ _ c.need-want.result c.in-Mark.ensures.past c.arm.ensures.lists.0 c.in-Mark.ensures.asleep (ap (λ w. w.end.state.machine.marked) c.self.view_is ∙ c.requires.ready.unmarked) c.self.invariant.live;
      room = room_quiet _ _ _ (got_same _ _ c.arm.ensures.stays.same.pages c.arm.ensures.lists.0 c.arm.ensures.lists.1) c.arm.ensures.stays.cells c.arm.ensures.lists.2 (ap sent_of c.in-Mark.ensures.past) c.self.invariant.room;
      pages = pages_quiet g.E.Seatlike.told g.T.Protocol.said g.T.Protocol.format g.T.Protocol.lends g.T.Protocol.besides _ _ refl refl refl c.arm.ensures.lists.0 c.arm.ensures.stays.same.pages c.arm.ensures.stays.same.side c.arm.ensures.stays.tells (λ s. ap (own_open s) c.in-Mark.ensures.past) c.arm.ensures.home c.self.invariant.pages;
      side = c.self.invariant.side ∙ sym c.arm.ensures.stays.side;
    }

pub returns-in-Nothing-clause-turns : goal.returns-in-Nothing-clause-turns
returns-in-Nothing-clause-turns g c =
    let v = c.self.view_is in (
      c.arm.ensures.unmarked,
      c.in-Nothing.ensures.asleep,
      rests_at (g.T.Protocol.format c.self.inside.responder.protocol) (g.T.Protocol.keeps c.self.inside.responder.protocol) (g.T.Protocol.besides c.self.inside.responder.protocol) (record {
        responder = c.self.inside.responder;
        end = c.self.inside.port;
        serve = c.self.inside.serve;
        stops = c.self.inside.stops;
        starts = c.self.inside.starts;
        come = c.self.inside.come;
        missing = c.self.inside.missing;
        served = c.self.inside.served;
        seen = c.self.inside.seen;
        want = c.self.inside.want;
      }) _ c.need-want.result c.need-want.ensures.value (record { asleep = c.in-Nothing.ensures.asleep; want_is = c.arm.ensures.want c.in-Nothing.ensures.asleep }) c.arm.ensures.stays.same.pages c.arm.ensures.lists.2 (subst (λ w. HasRoomFor w.responder.owed w.end) (sym v) c.requires.room) c.arm.ensures.lists.0 (subst (λ w. is_nil w.responder.owed ≡ true → HasToWait (g.T.Protocol.format w.responder.protocol) (g.T.Protocol.besides w.responder.protocol) w) (sym v) c.requires.waits) c.in-Nothing.ensures.past (ap (λ w. w.seen) v ∙ c.requires.unseen),
    )

pub returns-in-Nothing-clause-tried : goal.returns-in-Nothing-clause-tried
returns-in-Nothing-clause-tried g c = λ before met owed none.
    let told = g.E.Seatlike.told in
    let tale = g.E.Seatlike.tale in
    let v = c.self.view_is in
    let old = c.self.inside.port.end in
    let new = c.arm.new.self.end in
    let rested : FoundNothing told tale c.need-want.result old new = record { armed = c.arm.ensures.once; asleep = c.in-Nothing.ensures.found } in
    let owed' = subst (λ w. OwedTried told tale w.responder.owed before met) (sym v) owed in
    let none' = subst (λ w. FoundNone told tale met w.end.end) (sym v) none in
    rests_tried told tale c.self.inside.responder.owed c.need-want.result before met old new owed' none' rested
