use Rattle.rndis_msg.proofs.WriteLaws.{whole_begins}
use Rattle.rndis_msg.proofs.laws.encode_and_decode.Goals as goal

pub returns : goal.returns
returns c = c.decode.ensures.only c.args.m.now (whole_begins c.args.m.now _ c.encode-len.ensures.message)
