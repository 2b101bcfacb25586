use Rattle.std.proofs.Common.{Ok, sym, ap}
use Rattle.channel_protocol.specs.Listed.{has_message_in}
use Rattle.net_format.specs.PageNets.{fixed_by}
use Rattle.device_net.proofs.NetCameLaws.{not_initialize}
use Rattle.device_net.proofs.page_nets.is_initialize.Goals as goal

pub returns-in-Initialize : goal.returns-in-Initialize
returns-in-Initialize c id = sym (ap (λ m. has_message_in (fixed_by id (Ok m))) c.in-Initialize.is)

pub returns-in_default : goal.returns-in_default
returns-in_default c id = sym (ap has_message_in (not_initialize id c.args.m.now c.in_default.not-Initialize))
