use Rattle.std.proofs.Common.{◌≡◌, subst}
use Rattle.worker_pair.specs.Leaving.{Leaves}
use Rattle.bus_threads.specs.Starting.{Comes}
use Rattle.bus_threads.proofs.channel.here.Goals as goal

pub returns-in-Ran : goal.returns-in-Ran
returns-in-Ran g c w comes = subst (Comes w) c.in-Ran.is comes

pub returns-in-Back : goal.returns-in-Back
returns-in-Back g c w comes =
    let same : c.in-Back.worker ≡ w = subst (Comes w) c.in-Back.is comes in
    subst (λ v. Leaves v c.run.result) same c.run.ensures
