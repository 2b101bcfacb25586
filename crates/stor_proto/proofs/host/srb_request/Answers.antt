use Rattle.std.proofs.Common.{sym}
use Rattle.stor_proto.proofs.host.srb_request.Goals as goal

pub returns-in-Some : goal.returns-in-Some
returns-in-Some c = sym (c.in-Some.ensures c.args.out)
