use Rattle.std.proofs.Common.{sym, ◌∙◌}
use Rattle.device_net.proofs.CameLaws.{status_not, status_faulty, status_other, status_is}
use Rattle.device_net.proofs.nets.status.Goals as goal

pub returns-then-not-is_completion : goal.returns-then-not-is_completion
returns-then-not-is_completion c = sym (status_not c.args.packet.now (sym c.is_completion.ensures.value ∙ c.if-not-is_completion.true))

pub returns-in_default : goal.returns-in_default
returns-in_default c = sym (status_faulty c.args.packet.now _ c.decode_nvsp.result c.content-len.ensures.bytes c.in_default.not-Ok c.decode_nvsp.ensures.fault)

pub returns-in-RndisPacketComplete : goal.returns-in-RndisPacketComplete
returns-in-RndisPacketComplete c =
    sym (status_is c.args.packet.now _ c.in-Ok.message c.in-RndisPacketComplete.status (sym c.is_completion.ensures.value ∙ c.if-not-is_completion.false) c.content-len.ensures.bytes c.in-Ok.ensures.found c.in-RndisPacketComplete.is)

pub returns-in_default-message : goal.returns-in_default-message
returns-in_default-message c = sym (status_other c.args.packet.now _ c.in-Ok.message c.content-len.ensures.bytes c.in-Ok.ensures.found c.in_default-message.not-RndisPacketComplete)
