use Rattle.device_kinds.proofs.KindLaws.{sent_can}
use Rattle.worker_pair.proofs.making.message_can.Goals as goal

pub returns : goal.returns
returns c = sent_can c.args.message.now c.requires
