use Rattle.std.proofs.Common.{sym, subst, ◌∙◌}
use Rattle.worker_port.specs.Line.{Line, line_of}
use Rattle.worker_port.specs.declared.ended.Ended.{Ended}
use Rattle.worker_requester.specs.Asking.{EndsAcked, EverTried}
use Rattle.worker_port.specs.Rooms.{SaysWhy}
use Rattle.worker_requester.proofs.AskSteps.{ends_acked, ever_tried, says_why}
use Rattle.worker_requester.proofs.requester.Requester.run.Goals as goal

pub returns-in-Ended-clause-tried : goal.returns-in-Ended-clause-tried
returns-in-Ended-clause-tried g c =
    let channel = g.S.Parks.channel in
    let told = g.S.Seatlike.told in
    let tale = g.S.Seatlike.tale in
    let u = c.args.self in
    let w = c.turn.new.self in
    let ever = ever_tried channel told tale g.T.Protocol.format c.in-Ended.ended u c.loop.self w c.loop.invariant.on c.turn.ensures.on c.in-Ended.ensures.cause c.in-Ended.ensures.tried in
    subst (λ (p : Ended × Line _). EverTried channel told tale (g.T.Protocol.format u.protocol) p.0 u.end.end p.1) (λ i. (sym c.done.ensures.same.0 i, c.done.ensures.line i)) ever

pub returns-in-Ended-clause-broken : goal.returns-in-Ended-clause-broken
returns-in-Ended-clause-broken g c =
    let w = c.turn.new.self in
    let p = w.protocol in
    subst (λ (p : Ended × Line _). SaysWhy p.0 p.1) (λ i. (sym c.done.ensures.same.0 i, c.done.ensures.line i))
    (says_why (g.T.Protocol.format p) (g.T.Protocol.besides p) (g.T.Protocol.asks p) w c.in-Ended.ended c.in-Ended.ensures.turns.1)

pub returns-in-Ended-clause-acks : goal.returns-in-Ended-clause-acks
returns-in-Ended-clause-acks g c =
    let w = c.turn.new.self in
    let p = w.protocol in
    subst (λ x. EndsAcked (g.T.Protocol.format x) c.done.result.ended (line_of g.T.Protocol.said c.done.result.end)) (c.turn.ensures.on.protocol ∙ c.loop.invariant.on.protocol)
    (subst (λ (q : Ended × Line _). EndsAcked (g.T.Protocol.format p) q.0 q.1) (λ i. (sym c.done.ensures.same.0 i, c.done.ensures.line i))
    (ends_acked (g.T.Protocol.format p) (g.T.Protocol.besides p) (g.T.Protocol.asks p) w c.in-Ended.ended c.in-Ended.ensures.turns.1))
