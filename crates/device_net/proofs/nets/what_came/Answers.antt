use Rattle.std.proofs.Common.{sym, ◌∙◌}
use Rattle.device_net.proofs.CameLaws.{came_not, came_faulty, came_init, came_receive, came_send, came_rndis, came_other}
use Rattle.device_net.proofs.nets.what_came.Goals as goal

pub returns-then-not-is_inband : goal.returns-then-not-is_inband
returns-then-not-is_inband c = came_not c.args.packet.now (sym c.is_inband.ensures.value ∙ c.if-not-is_inband.true)

pub returns-in_default : goal.returns-in_default
returns-in_default c = came_faulty c.args.packet.now _ c.decode_nvsp.result c.content-len.ensures.bytes c.in_default.not-Ok c.decode_nvsp.ensures.fault

pub returns-in-Init : goal.returns-in-Init
returns-in-Init c =
    came_init c.args.packet.now _ c.in-Ok.message c.in-Init.min c.in-Init.max (sym c.is_inband.ensures.value ∙ c.if-not-is_inband.false) c.content-len.ensures.bytes c.in-Ok.ensures.found c.in-Init.is

pub returns-in-ReceiveBuffer : goal.returns-in-ReceiveBuffer
returns-in-ReceiveBuffer c =
    came_receive c.args.packet.now _ c.in-Ok.message c.in-ReceiveBuffer.gpadl c.in-ReceiveBuffer.id (sym c.is_inband.ensures.value ∙ c.if-not-is_inband.false) c.content-len.ensures.bytes c.in-Ok.ensures.found c.in-ReceiveBuffer.is

pub returns-in-SendBuffer : goal.returns-in-SendBuffer
returns-in-SendBuffer c =
    came_send c.args.packet.now _ c.in-Ok.message c.in-SendBuffer.gpadl c.in-SendBuffer.id (sym c.is_inband.ensures.value ∙ c.if-not-is_inband.false) c.content-len.ensures.bytes c.in-Ok.ensures.found c.in-SendBuffer.is

pub returns-in-RndisPacket : goal.returns-in-RndisPacket
returns-in-RndisPacket c =
    came_rndis c.args.packet.now _ c.in-Ok.message c.in-RndisPacket.channel_type c.in-RndisPacket.section_index c.in-RndisPacket.section_size
    (sym c.is_inband.ensures.value ∙ c.if-not-is_inband.false) c.content-len.ensures.bytes c.in-Ok.ensures.found c.in-RndisPacket.is

pub returns-in_default-message : goal.returns-in_default-message
returns-in_default-message c =
    came_other c.args.packet.now _ c.in-Ok.message c.content-len.ensures.bytes c.in-Ok.ensures.found c.in_default-message.not-Init c.in_default-message.not-ReceiveBuffer c.in_default-message.not-SendBuffer c.in_default-message.not-RndisPacket
