use Rattle.stor_proto.proofs.FieldLaws.{put_part_is}
use Rattle.stor_proto.proofs.srb.put_part.Goals as goal

pub returns : goal.returns
returns c = put_part_is c.args.rest.now c.put_bytes.new.bytes c.args.part.now c.args.at c.put_bytes.ensures.front c.put_bytes.ensures.rest
