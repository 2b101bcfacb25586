use Rattle.std.proofs.Common.{◌+◌, ◌-◌, length, arith}
use Rattle.std.proofs.lemmas.Slice.{drop-put_mid}
use Rattle.wire_table.proofs.little.put_bytes.Goals as goal

pub returns-clause-rest : goal.returns-clause-rest
returns-clause-rest c =
    let n = length c.args.raw.now in
    drop-put_mid c.args.at (c.args.at + n - c.args.at) c.args.bytes.now c.copy_from_slice.new.self (c.args.at + n) (omega arith) (omega arith) (omega arith)
