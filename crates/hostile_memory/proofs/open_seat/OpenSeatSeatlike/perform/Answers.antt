use Rattle.std.proofs.Common.{◌≡◌, ◌∙◌, ℕ, List, ◌∷◌, Some, ap}
use Rattle.atomic_table.specs.Table.{Me}
use Rattle.hostile_memory.specs.declared.rule.OpenView.{OpenView}
use Rattle.hostile_memory.specs.Open.{heard_in}
use Rattle.hostile_memory.proofs.open_seat.OpenSeatSeatlike.perform.Goals as goal

pub returns-clause-hears : goal.returns-clause-hears
returns-clause-hears c vs e =
    let same : heard_in c.args.self.now.seat.me.0 ≡ vs = cc in
    ap (λ (z : Me (Unit {0}) OpenView). Some (heard_in z.0)) c.perform_as.ensures.heard ∙ ap (λ (us : List ℕ). Some (c.perform_as.result ∷ us)) same
