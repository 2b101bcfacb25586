use Rattle.std.proofs.Common.{◌∙◌, ap, map, sym, subst}
use Rattle.worker_port.specs.Line.{Line, line_of}
use Rattle.worker_port.specs.declared.ended.Ended.{Ended}
use Rattle.worker_server.specs.Serving.{EndsBy, EverTried}
use Rattle.worker_server.proofs.ResponderLaws.{behind_is, front_is}
use Rattle.worker_port.specs.Rooms.{SaysWhy}
use Rattle.worker_server.proofs.ServeSteps.{ends_on, ever_tried, on_refl, on_trans, says_why}
use Rattle.worker_server.proofs.server.Server.run.Goals as goal

pub loop-init : goal.loop-init
loop-init g c = record { can = tt; ends = tt; unmarked = c.requires.unmarked; on = on_refl g.S.Device.same g.E.Parks.channel g.E.Seatlike.told g.S.Device.same_refl _ }

pub loop-preserved-in-Moved : goal.loop-preserved-in-Moved
loop-preserved-in-Moved g c = record {
  can = tt;
  ends = tt;
  unmarked = c.in-Moved.ensures.turns;
  on = on_trans g.S.Device.same g.E.Parks.channel g.E.Seatlike.told g.S.Device.same_trans _ _ _ c.loop.invariant.on c.turn.ensures.on;
}

pub loop-preserved : goal.loop-preserved
loop-preserved g c = record {
  can = tt;
  ends = tt;
  unmarked = c.sleep.ensures.unmarked;
  on = on_trans g.S.Device.same g.E.Parks.channel g.E.Seatlike.told g.S.Device.same_trans _ _ _ c.loop.invariant.on (on_trans g.S.Device.same g.E.Parks.channel g.E.Seatlike.told g.S.Device.same_trans _ _ _ c.turn.ensures.on c.sleep.ensures.on);
}

pub returns-in-Ended-clause-seat : goal.returns-in-Ended-clause-seat
returns-in-Ended-clause-seat g c =
    subst (λ x. g.S.Device.same c.args.self.responder.seat x) (sym c.done.ensures.same.1) (g.S.Device.same_trans _ _ _ c.loop.invariant.on.seat c.turn.ensures.on.seat)

pub returns-in-Ended-clause-ends : goal.returns-in-Ended-clause-ends
returns-in-Ended-clause-ends g c =
    let u = c.args.self in
    let w = c.turn.new.self in
    let on = on_trans g.S.Device.same g.E.Parks.channel g.E.Seatlike.told g.S.Device.same_trans _ _ _ c.loop.invariant.on c.turn.ensures.on in
    subst (λ l. EndsBy (g.T.Protocol.format u.responder.protocol) (g.T.Protocol.besides u.responder.protocol) c.done.result.ended u (line_of g.T.Protocol.said c.done.result.end) l) (sym (behind_is u.responder.before w.responder.before w.responder.calls _ c.done.ensures.calls on.before))
    (ends_on g.S.Device.same g.E.Parks.channel g.E.Seatlike.told g.T.Protocol.format g.T.Protocol.besides c.done.result.ended u w (line_of g.T.Protocol.said c.done.result.end) w.responder.calls on c.done.ensures.ends.1)

pub returns-in-Ended-clause-before : goal.returns-in-Ended-clause-before
returns-in-Ended-clause-before g c =
    let w = c.turn.new.self in
    let on = on_trans g.S.Device.same g.E.Parks.channel g.E.Seatlike.told g.S.Device.same_trans _ _ _ c.loop.invariant.on c.turn.ensures.on in
    front_is c.args.self.responder.before w.responder.before w.responder.calls _ c.done.ensures.calls on.before

pub returns-in-Ended-clause-serials : goal.returns-in-Ended-clause-serials
returns-in-Ended-clause-serials g c =
    let w = c.turn.new.self in
    let on = on_trans g.S.Device.same g.E.Parks.channel g.E.Seatlike.told g.S.Device.same_trans _ _ _ c.loop.invariant.on c.turn.ensures.on in
    c.done.ensures.serials ∙ ap (map (λ c. c.serial)) (sym (behind_is c.args.self.responder.before w.responder.before w.responder.calls _ c.done.ensures.calls on.before))

pub returns-in-Ended-clause-tried : goal.returns-in-Ended-clause-tried
returns-in-Ended-clause-tried g c =
    let same = g.S.Device.same in
    let channel = g.E.Parks.channel in
    let told = g.E.Seatlike.told in
    let tale = g.E.Seatlike.tale in
    let u = c.args.self in
    let w = c.turn.new.self in
    let s = g.T.Protocol.format u.responder.protocol in
    let besides = g.T.Protocol.besides u.responder.protocol in
    let on = on_trans same channel told g.S.Device.same_trans _ _ _ c.loop.invariant.on c.turn.ensures.on in
    let ever = ever_tried same channel told tale g.T.Protocol.format g.T.Protocol.besides c.in-Ended.ended u c.loop.self w c.loop.invariant.on on c.in-Ended.ensures.cause c.in-Ended.ensures.tried in
    subst (λ l. EverTried channel told tale s besides c.done.result.ended u (line_of g.T.Protocol.said c.done.result.end) l) (sym (behind_is u.responder.before w.responder.before w.responder.calls _ c.done.ensures.calls on.before))
    (subst (λ (p : Ended × Line _). EverTried channel told tale s besides p.0 u p.1 w.responder.calls) (λ i. (sym c.done.ensures.ends.0 i, c.done.ensures.line i)) ever)

pub returns-in-Ended-clause-broken : goal.returns-in-Ended-clause-broken
returns-in-Ended-clause-broken g c =
    let w = c.turn.new.self in
    let p = w.responder.protocol in
    subst (λ (p : Ended × Line _). SaysWhy p.0 p.1) (λ i. (sym c.done.ensures.ends.0 i, c.done.ensures.line i))
    (says_why (g.T.Protocol.format p) (g.T.Protocol.besides p) w g.S.Device.left c.in-Ended.ended c.in-Ended.ensures.turns.1)
