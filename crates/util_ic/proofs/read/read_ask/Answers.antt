use Rattle.std.proofs.Common.{Some, sym, ap, ◌∙◌}
use Rattle.util_ic.specs.declared.ic.IcAsk.TheVariants.{Beat}
use Rattle.util_ic.specs.Asks.{asked_by}
use Rattle.util_ic.proofs.read.read_ask.Goals as goal

pub returns-in-Heartbeat : goal.returns-in-Heartbeat
returns-in-Heartbeat c =
    let b = c.args.request.now in
    let seq = rw c.heartbeat_table.ensures at c.get.ensures.value in
    let row = sym c.in-Heartbeat.is ∙ c.first_row.ensures.row in
    ap (λ n. Some (Beat n)) seq ∙ ap (λ r. asked_by r b) row
