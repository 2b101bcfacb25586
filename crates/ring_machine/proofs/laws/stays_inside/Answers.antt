use Rattle.ring_machine.proofs.Bounds.{inside_in}
use Rattle.ring_machine.proofs.laws.stays_inside.Goals as goal

pub returns : goal.returns
returns c = inside_in c.args._core.now.machine c.args._core.now.pages c.args._packet.now c.args._core.now.sound c.args._core.now.fit
