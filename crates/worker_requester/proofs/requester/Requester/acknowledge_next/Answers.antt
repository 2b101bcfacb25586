use Rattle.std.proofs.Common.{sym, subst}
use Rattle.worker_requester.specs.Asking.{LeavesTried}
use Rattle.worker_requester.proofs.AskSteps.{tried_marked}
use Rattle.worker_requester.proofs.requester.Requester.acknowledge_next.Goals as goal

pub returns-then-seen-clause-tried : goal.returns-then-seen-clause-tried
returns-then-seen-clause-tried g c = λ before none.
    let told = g.S.Seatlike.told in
    let tale = g.S.Seatlike.tale in
    let e = c.acknowledge.new.self.end in
    let e' = c.rescind_open.new.self.end in
    subst (λ t. LeavesTried told tale (g.T.Protocol.format t) before e') (sym c.rescind_open.ensures.on.protocol)
    (tried_marked told tale (g.T.Protocol.format c.acknowledge.new.self.protocol) e e' before c.args.self.now.end.end c.rescind_open.ensures.past none c.in-Held.ensures.full c.rescind_open.ensures.once)

pub returns-else-seen-clause-tried : goal.returns-else-seen-clause-tried
returns-else-seen-clause-tried g c = λ before none. c.arm_or_sleep.ensures.tried before c.args.self.now.end.end none c.in-Held.ensures.tried
