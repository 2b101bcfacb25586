use Rattle.std.proofs.Common.{arith}
use Rattle.net_dev.proofs.NvspLaws.{from_kind}
use Rattle.net_dev.proofs.codec.parse.Goals as goal

pub returns : goal.returns
returns c = from_kind c.args.bytes.now c.get_at-kind.result c.read.result (omega arith) c.get_at-kind.ensures.value c.read.ensures
