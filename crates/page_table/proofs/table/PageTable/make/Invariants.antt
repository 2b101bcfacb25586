use Rattle.std.proofs.Common.{◌≡◌}
use Rattle.page_table.specs.Table.{first_owners}
use Rattle.page_table.proofs.table.PageTable.make.Given as goal

abbrev pub invariant-loop-page : goal.invariant-loop-page
invariant-loop-page l = l.owners.items ≡ first_owners l.side l.page
