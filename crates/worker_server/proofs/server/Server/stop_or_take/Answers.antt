use Rattle.worker_server.proofs.ServeSteps.{owes_none}
use Rattle.worker_server.proofs.server.Server.stop_or_take.Goals as goal

pub returns-then-has_unserved-clause-tried : goal.returns-then-has_unserved-clause-tried
returns-then-has_unserved-clause-tried g c =
    let e = c.args.self.now in
    c.take_or_rest.ensures.tried e.end.end (owes_none g.E.Seatlike.told g.E.Seatlike.tale e.responder.owed e.end.end c.requires.owed)

pub returns-clause-tried : goal.returns-clause-tried
returns-clause-tried g c =
    let e = c.args.self.now in
    c.take_or_rest-2.ensures.tried e.end.end (owes_none g.E.Seatlike.told g.E.Seatlike.tale e.responder.owed e.end.end c.requires.owed)
