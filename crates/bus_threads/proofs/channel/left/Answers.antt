use Rattle.std.proofs.Common.{◌≡◌, subst}
use Rattle.bus_threads.specs.Starting.{Comes, IsStarted}
use Rattle.bus_threads.proofs.channel.left.Goals as goal

pub here-requires-after_bounds : goal.here-requires-after_bounds
here-requires-after_bounds g c ls bounds =
    let of = c.requires in
    let same : c.in-Thread.handle.promise.worker.value ≡ of.0 = subst (IsStarted of.0) c.in-Thread.is of.2 in
    (of.0, of.1, subst (λ w. Comes w c.join.result) same c.join.ensures)

pub here-requires-in-Here-after_bounds : goal.here-requires-in-Here-after_bounds
here-requires-in-Here-after_bounds g c ls bounds =
    let of = c.requires in
    (of.0, of.1, subst (IsStarted of.0) c.in-Here.is of.2)
