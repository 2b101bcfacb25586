use Rattle.std.proofs.Common.{length, arith}
use Rattle.wire_table.specs.Little.{bytes_of}
use Rattle.wire_table.proofs.LittleLemmas.{bytes_of_more, bytes_of_all}
use Rattle.wire_table.proofs.little.spell.Goals as goal

pub loop-x-preserved : goal.loop-x-preserved
loop-x-preserved c =
    bytes_of_more (length c.args.field.now) c.loop-x.x-index c.loop-x.field (bytes_of (length c.args.field.now) c.args.v) c.loop-x.left (omega arith) (omega arith) c.loop-x.invariant

pub returns : goal.returns
returns c =
    bytes_of_all (length c.args.field.now) c.loop-x.x-index c.loop-x.field (bytes_of (length c.args.field.now) c.args.v) c.loop-x.left (omega arith) (omega arith) c.loop-x.invariant
