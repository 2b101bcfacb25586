use Rattle.std.proofs.Common.{◌-◌, length, arith}
use Rattle.wire_table.specs.Tables.{at_of, width_of}
use Rattle.util_ic.proofs.ByteLaws.{put_behind}
use Rattle.util_ic.proofs.tables.set.Goals as goal

pub returns : goal.returns
returns g c =
    let fields = c.args.table.now.layout.fields in
    let message = c.args.message.now in
    put_behind c.args.start (at_of fields c.args.i) (width_of fields c.args.i) c.args.v (length message - c.args.start) message c.put.new.bytes (omega arith) c.put.ensures.front c.put.ensures.rest
