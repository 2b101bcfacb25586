use Rattle.page_table.proofs.Moves.{part_done}
use Rattle.page_table.proofs.table.PageTable.part_of.Goals as goal

pub returns-then-packet-eq-COMPLETION-clause-part : goal.returns-then-packet-eq-COMPLETION-clause-part
returns-then-packet-eq-COMPLETION-clause-part c = part_done c.args.self.now.owners c.args.packet.now c.held_under.result c.if-packet-eq-COMPLETION.true c.held_under.ensures.held
