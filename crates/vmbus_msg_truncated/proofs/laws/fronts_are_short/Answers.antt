use Rattle.vmbus_msg_truncated.proofs.FrontLaws.{front_short}
use Rattle.vmbus_msg_truncated.proofs.laws.fronts_are_short.Goals as goal

pub returns : goal.returns
returns c = front_short
