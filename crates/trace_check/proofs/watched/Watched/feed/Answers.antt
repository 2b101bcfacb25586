use Rattle.std.proofs.Common.{ap, ◌∙◌}
use Rattle.ring_machine.specs.declared.machine.EndMachine.{EndMachine}
use Rattle.ring_machine.proofs.Tables.{fed_cells}
use Rattle.trace_check.proofs.watched.Watched.feed.Goals as goal

pub returns-then-not-is_busy-clause-cells : goal.returns-then-not-is_busy-clause-cells
returns-then-not-is_busy-clause-cells c = ap (λ (k : EndMachine). k.cells) c.feed.ensures.next ∙ fed_cells c.args.self.now.core.machine c.args.v c.args.self.now.core.machine.stage

pub returns-else-not-is_busy-clause-cells : goal.returns-else-not-is_busy-clause-cells
returns-else-not-is_busy-clause-cells c = ap (λ (k : EndMachine). k.cells) c.feed.ensures.next ∙ fed_cells c.args.self.now.core.machine c.args.v c.args.self.now.core.machine.stage
