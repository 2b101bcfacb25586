use Rattle.std.proofs.Common.{◌≡◌, sym, subst, arith, List}
use Rattle.page_kept.specs.declared.owner.Owner.{Owner}
use Rattle.page_table.specs.Table.{IsTable}
use Rattle.page_table.proofs.Moves.{new_table}
use Rattle.page_table.proofs.table.PageTable.make.Goals as goal

pub invariant_of-result : goal.invariant_of-result
invariant_of-result c =
    let k : c.loop-page.page ≡ c.args.pages = omega (arith, c.loop-page-test.false, c.loop-page.auto.page-end) in
    subst (λ (os : List Owner). IsTable os c.in_ok-copy.copy.items) (sym c.loop-page.invariant)
    (new_table c.args.side c.loop-page.page c.in_ok-copy.copy.items (omega (arith, k, c.requires.pages)) (omega (arith, k, c.in_ok-copy.ensures.len, c.in_ok-copy.copy.ok.0)))
