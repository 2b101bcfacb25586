use Rattle.std.proofs.Common.{refl}
use Rattle.bus_run.proofs.Phases.{finish, finish_worked}
use Rattle.bus_run.proofs.runner.Runner.end.Goals as goal

pub returns : goal.returns
returns c = record {
  run = λ lines so_far over. finish lines c.args.self c.in-Ok.histories.items so_far over c.in-Ok.ensures.logs c.in-Ok.ensures.legal;
  work = λ lines so_far over. finish_worked lines c.args.self so_far over;
  path = refl;
}
