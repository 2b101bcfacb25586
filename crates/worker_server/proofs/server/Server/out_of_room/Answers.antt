use Rattle.std.proofs.Common.{◌+◌, subst}
use Rattle.worker_port.specs.Rooms.{KeepsRoom, ServedWithin}
use Rattle.channel_model.specs.Amounts.{room_of}
use Rattle.worker_server.specs.Serving.{IsServing}
use Rattle.worker_server.proofs.ServeSteps.{asked_over, on_either}
use Rattle.worker_port.proofs.RoomLaws.{serve_over, served_so_far}
use Rattle.worker_server.proofs.server.Server.out_of_room.Goals as goal

pub returns-clause-reserved : goal.returns-clause-reserved
returns-clause-reserved g c = subst (λ w. KeepsRoom (room_of (g.T.Protocol.besides w.responder.protocol) (w.starts + w.come)) w.end) c.self.view_is c.self.invariant.room

pub returns-clause-over : goal.returns-clause-over
returns-clause-over g c =
    let v = c.self.view_is in
    let w = c.args.self.now in
    let live = subst (λ w. IsServing (g.T.Protocol.format w.responder.protocol) (g.T.Protocol.besides w.responder.protocol) w) v c.self.invariant.live in
    on_either
    (λ l. serve_over (g.T.Protocol.format w.responder.protocol) (g.T.Protocol.keeps w.responder.protocol) (g.T.Protocol.besides w.responder.protocol) w.responder.held w.serve (w.starts + w.come) c.args.packets c.args.words w.responder.owed _ _ _ w.end (g.T.Protocol.may w.responder.protocol) live.kept c.requires.list
    (subst (λ w. KeepsRoom (room_of (g.T.Protocol.besides w.responder.protocol) (w.starts + w.come)) w.end) v c.self.invariant.room) l)
    (λ l. asked_over (g.T.Protocol.format w.responder.protocol) (g.T.Protocol.keeps w.responder.protocol) (g.T.Protocol.besides w.responder.protocol) w c.requires.list live l.lacks)
    c.requires.lacks

pub returns-clause-sent : goal.returns-clause-sent
returns-clause-sent g c =
    subst (λ w. ServedWithin (g.T.Protocol.format w.responder.protocol) (g.T.Protocol.besides w.responder.protocol) w.end.state.past) c.self.view_is
    (served_so_far (g.T.Protocol.format c.self.inside.responder.protocol) (g.T.Protocol.keeps c.self.inside.responder.protocol) (g.T.Protocol.besides c.self.inside.responder.protocol) c.self.inside.responder.held c.self.inside.serve _ _ _ _ _ c.self.inside.port (g.T.Protocol.may c.self.inside.responder.protocol)
    c.self.invariant.live.kept c.self.invariant.room)
