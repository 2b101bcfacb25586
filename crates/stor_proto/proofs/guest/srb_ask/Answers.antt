use Rattle.std.proofs.Common.{ap, ◌∙◌}
use Rattle.stor_proto.specs.Srbs.{request_of}
use Rattle.stor_proto.proofs.SrbLaws.{ask_read_back}
use Rattle.stor_proto.proofs.guest.srb_ask.Goals as goal

pub returns-clause-read_back : goal.returns-clause-read_back
returns-clause-read_back c =
    let r = c.args.r.now in
    λ own. ap (λ p. request_of p r.out) c.packet.ensures.value ∙ ask_read_back r c.packet.ensures.len c.requires.few own
