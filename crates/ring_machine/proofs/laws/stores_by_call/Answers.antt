use Rattle.ring_machine.proofs.Bounds.{changes_in}
use Rattle.ring_machine.proofs.laws.stores_by_call.Goals as goal

pub returns : goal.returns
returns c = changes_in c.args._core.now.machine c.args._core.now.pages.call c.args._packet.now c.args._core.now.fit.idle
