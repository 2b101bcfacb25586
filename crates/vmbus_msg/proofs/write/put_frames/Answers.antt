use Rattle.std.proofs.Common.{arith}
use Rattle.vmbus_msg.proofs.FrameLaws.{all_fit}
use Rattle.vmbus_msg.proofs.write.put_frames.Goals as goal

pub returns-clause-fit : goal.returns-clause-fit
returns-clause-fit c = all_fit c.args.frames.now (λ i. omega (arith, c.type_inv.frames i))
