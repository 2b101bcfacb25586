use Rattle.vmbus_msg_truncated.proofs.FrontLaws.{front_frames}
use Rattle.vmbus_msg_truncated.proofs.laws.fronts_are_fewer_frames.Goals as goal

pub returns : goal.returns
returns c = front_frames
