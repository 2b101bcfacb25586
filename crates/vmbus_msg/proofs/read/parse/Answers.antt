use Rattle.vmbus_msg.proofs.MsgLaws.{from_kind}
use Rattle.vmbus_msg.proofs.read.parse.Goals as goal

pub returns : goal.returns
returns c = from_kind c.args.bytes.now c.u32_at-kind.result c.read.result c.in_ok-has_at_least.ensures c.u32_at-kind.ensures c.read.ensures
