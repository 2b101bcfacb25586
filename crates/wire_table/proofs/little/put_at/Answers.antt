use Rattle.std.proofs.Common.{◌+◌, ◌-◌, arith}
use Rattle.std.proofs.lemmas.Slice.{drop-put_mid}
use Rattle.wire_table.proofs.little.put_at.Goals as goal

pub returns-clause-rest : goal.returns-clause-rest
returns-clause-rest c =
    drop-put_mid c.args.at (c.args.at + c.args.width - c.args.at) c.args.bytes.now c.spell.new.field (c.args.at + c.args.width) (omega arith) (omega arith) (omega arith)
