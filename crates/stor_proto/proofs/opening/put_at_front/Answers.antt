use Rattle.std.proofs.Common.{ap, ◌∙◌}
use Rattle.stor_proto.specs.Fields.{with_number}
use Rattle.stor_proto.proofs.FieldLaws.{put_is}
use Rattle.stor_proto.proofs.opening.put_at_front.Goals as goal

pub returns : goal.returns
returns c = put_is c.args.rest.now c.put_at.new.bytes 0 2 c.from.result c.put_at.ensures.front c.put_at.ensures.rest ∙ ap (λ v. with_number 0 2 v c.args.rest.now) c.from.ensures
