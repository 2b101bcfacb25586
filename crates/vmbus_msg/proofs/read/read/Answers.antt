use Rattle.std.proofs.Common.{arith}
use Rattle.vmbus_msg.specs.Reading.{Reads}
use Rattle.vmbus_msg.proofs.UnknownLaws.{unknown_fault}
use Rattle.vmbus_msg.proofs.read.read.Goals as goal

pub returns-in_default : goal.returns-in_default
unfolding Reads
returns-in_default c = unknown_fault c.args.kind c.args.bytes.now (omega arith) (omega arith) (omega arith) (omega arith) (omega arith) (omega arith) (omega arith) (omega arith) (omega arith) (omega arith) (omega arith) (omega arith) (omega arith) (omega arith) (omega arith) (omega arith) (omega arith) (omega arith) (omega arith) (omega arith)
