use Rattle.std.proofs.Common.{refl}
use Rattle.worker_server.proofs.ServeSteps.{first_tried}
use Rattle.worker_server.proofs.server.Server.give_or_take.Goals as goal

pub returns-in-Full-clause-tried : goal.returns-in-Full-clause-tried
returns-in-Full-clause-tried g c =
    c.take_or_rest.ensures.tried c.args.self.now.end.end (first_tried g.E.Seatlike.told g.E.Seatlike.tale c.give.new.self.responder.owed c.args.self.now.end.end c.give.new.self.end.end (c.in-Full.ensures.tried refl))
