use Rattle.std.proofs.Common.{sym, subst}
use Rattle.worker_requester.specs.Asking.{LeavesTried}
use Rattle.worker_requester.proofs.AskSteps.{all_marked}
use Rattle.worker_requester.proofs.requester.Requester.go_on.Goals as goal

pub returns-then-seen-clause-tried : goal.returns-then-seen-clause-tried
returns-then-seen-clause-tried g c = λ before none.
    let told = g.S.Seatlike.told in
    let tale = g.S.Seatlike.tale in
    let w = c.find_message.new.self in
    let e' = c.rescind_open.new.self.end in
    subst (λ t. LeavesTried told tale (g.T.Protocol.format t) before e') (sym c.rescind_open.ensures.on.protocol)
    (all_marked told tale (g.T.Protocol.format w.protocol) w.end e' before c.rescind_open.ensures.past (c.find_message.ensures.all c.if-find_message.false))
