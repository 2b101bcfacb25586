use Rattle.std.proofs.Common.{refl}
use Rattle.worker_pair.proofs.Going.{served_stands}
use Rattle.worker_pair.proofs.turns.serve.Goals as goal

pub returns-in-Ended-clause-stands : goal.returns-in-Ended-clause-stands
returns-in-Ended-clause-stands g c =
    let e = c.in-Ended.ensures in
    served_stands c.in-Ended.how c.args.server.now c.turn.new.self e.on e.cause e.tried e.turns e.room (e.honest refl)
