use Rattle.std.proofs.Common.{ap, ◌∙◌}
use Rattle.ring_machine.specs.declared.machine.EndMachine.{EndMachine}
use Rattle.ring_machine.proofs.Tables.{fed_cells}
use Rattle.test_trace.proofs.turns.feed.Goals as goal

pub returns-clause-cells : goal.returns-clause-cells
returns-clause-cells c = ap (λ (k : EndMachine). k.cells) c.feed.ensures.next ∙ fed_cells c.args.core.now.machine c.args.v c.args.core.now.machine.stage
