use Rattle.std.proofs.Common.{ap, ◌∙◌}
use Rattle.rndis_msg.specs.Reading.{message_in}
use Rattle.device_net.proofs.page_nets.message.Goals as goal

pub returns : goal.returns
returns c = c.decode.ensures.value ∙ ap message_in c.put_bytes-len.ensures.bytes
