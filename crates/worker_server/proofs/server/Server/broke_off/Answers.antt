use Rattle.std.proofs.Common.{subst}
use Rattle.worker_port.specs.Rooms.{ServedWithin}
use Rattle.worker_port.proofs.RoomLaws.{served_so_far}
use Rattle.worker_server.proofs.server.Server.broke_off.Goals as goal

pub returns-clause-sent : goal.returns-clause-sent
returns-clause-sent g c =
    subst (λ w. ServedWithin (g.T.Protocol.format w.responder.protocol) (g.T.Protocol.besides w.responder.protocol) w.end.state.past) c.self.view_is
    (served_so_far (g.T.Protocol.format c.self.inside.responder.protocol) (g.T.Protocol.keeps c.self.inside.responder.protocol) (g.T.Protocol.besides c.self.inside.responder.protocol) c.self.inside.responder.held c.self.inside.serve _ _ _ _ _ c.self.inside.port (g.T.Protocol.may c.self.inside.responder.protocol)
    c.self.invariant.live.kept c.self.invariant.room)
