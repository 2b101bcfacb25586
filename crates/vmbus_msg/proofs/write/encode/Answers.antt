use Rattle.std.proofs.Common.{arith}
use Rattle.vmbus_msg.proofs.MsgLaws.{written_front}
use Rattle.vmbus_msg.proofs.write.encode.Goals as goal

pub returns-clause-message : goal.returns-clause-message
returns-clause-message c =
    written_front c.args.m.now c.write.new.out _ c.length-len.result (omega arith) c.length-len.ensures.value c.write.ensures.bytes (record { fields = c.write.ensures.fields; frames = c.write.ensures.frames })
