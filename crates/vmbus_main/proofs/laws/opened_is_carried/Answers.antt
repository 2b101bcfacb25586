use Rattle.vmbus_main.proofs.Opened.{carried_on_opened_lem}
use Rattle.vmbus_main.proofs.laws.opened_is_carried.Goals as goal

pub returns : goal.returns
returns c = carried_on_opened_lem
