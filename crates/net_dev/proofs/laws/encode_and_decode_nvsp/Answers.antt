use Rattle.std.proofs.Common.{[]}
use Rattle.net_dev.proofs.NvspLaws.{alone}
use Rattle.net_dev.proofs.laws.encode_and_decode_nvsp.Goals as goal

pub returns : goal.returns
returns c = c.decode_nvsp.ensures.only c.args.m.now (alone c.args.m.now _ (c.encode_nvsp.ensures.message []))
