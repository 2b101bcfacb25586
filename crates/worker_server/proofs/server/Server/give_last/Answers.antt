use Rattle.std.proofs.Common.{refl}
use Rattle.worker_server.proofs.server.Server.give_last.Goals as goal

pub returns-in-Full-clause-tried : goal.returns-in-Full-clause-tried
returns-in-Full-clause-tried g c = λ before none. c.drop_owed.ensures.tried before c.args.self.now.end.end none (c.in-Full.ensures.tried refl)
