use Rattle.std.proofs.Common.{◌∙◌, ◌∷◌, ◌++◌, [], ap}
use Rattle.ring_pair_laws.specs.Lists.{Lists}
use Rattle.bus_run.proofs.closing.keep_lists.Goals as goal

pub returns : goal.returns
returns c =
    c.in_ok-push.ensures.items
    ∙ ap (λ (l : Lists). c.args.settled.now.items ++ record { phase = c.args.phase; relid = c.args.due.now.opening.relid; device = c.args.due.now.opening.device; settled = l } ∷ []) c.make_place.ensures
