use Rattle.device_disk.proofs.PageHeadLaws.{asks_by, asks_nothing}
use Rattle.device_disk.proofs.page_disks.asks_disk.Goals as goal

pub returns-then-v-ne3 : goal.returns-then-v-ne3
returns-then-v-ne3 c = asks_nothing c.args.v.now c.args.lacks c.args.room c.if-v-ne3.true

pub returns : goal.returns
returns c = asks_by c.args.v.now c.args.lacks c.args.room c.stopped.result c.is_none.result c.is_none.ensures c.stopped.ensures
