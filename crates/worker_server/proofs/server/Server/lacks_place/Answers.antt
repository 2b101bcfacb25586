use Rattle.std.proofs.Common.{ap, ◌∙◌, subst}
use Rattle.worker_port.specs.Rooms.{OnlyWith}
use Rattle.channel_model.specs.Acks.{AllOwnOpen}
use Rattle.worker_server.proofs.ServeSteps.{only_full}
use Rattle.worker_server.proofs.server.Server.lacks_place.Goals as goal

pub returns-clause-full : goal.returns-clause-full
returns-clause-full g c all =
    let v = c.self.view_is in
    subst (λ w. OnlyWith (g.T.Protocol.besides w.responder.protocol) (AllOwnOpen (g.T.Protocol.format w.responder.protocol) 64 w.end.state.past)) v
    (only_full (g.T.Protocol.format c.self.inside.responder.protocol) (g.T.Protocol.keeps c.self.inside.responder.protocol) (g.T.Protocol.besides c.self.inside.responder.protocol) _ (g.T.Protocol.may c.self.inside.responder.protocol) (ap (λ w. w.responder.owed) v ∙ c.requires.owed)
    (ap (λ w. w.end.state.machine.marked) v ∙ c.requires.ready.unmarked) (c.is_full.ensures.full all) c.self.invariant.live)
