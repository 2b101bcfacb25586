use Rattle.std.proofs.Common.{sym, ◌∙◌, arith}
use Rattle.util_ic.proofs.TableLaws.{type_zero, on_other}
use Rattle.util_ic.proofs.row.first_row.Goals as goal

pub returns-then-asked-eq0-clause-row : goal.returns-then-asked-eq0-clause-row
returns-then-asked-eq0-clause-row c =
    let is = rw c.header_table.ensures at c.get-asked.ensures.value in
    c.negotiation.ensures.row ∙ type_zero c.args.kind c.args.request.now (omega arith) (sym is ∙ c.if-asked-eq0.true)

pub returns-clause-row : goal.returns-clause-row
returns-clause-row c =
    let is = rw c.header_table.ensures at c.get-asked.ensures.value in
    let beats = rw c.is_beat.ensures at (sym c.is_asked.ensures ∙ c.if-is_asked.false) in
    let downs = rw c.is_down.ensures at (sym c.is_asked-2.ensures ∙ c.if-is_asked-2.false) in
    on_other c.args.kind c.args.request.now c.get-asked.result is (omega arith) c.if-asked-eq0.false beats downs
